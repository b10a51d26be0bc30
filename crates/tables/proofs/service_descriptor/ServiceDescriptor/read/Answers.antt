use Rattle.std.proofs.Common.{arith, rules, ◌≡◌, ◌+◌, ℕ, get_or, ap, ◌∙◌, sym}
use Rattle.tables.proofs.ServiceLaws.{service_bad, service_good}
use Rattle.tables.proofs.service_descriptor.ServiceDescriptor.read.Goals as goal

pub returns-then-body-lt3 : goal.returns-then-body-lt3
returns-then-body-lt3 c = sym (service_bad c.args.body.now (λ e. omega arith))

pub returns-then-body-provider_name_length : goal.returns-then-body-provider_name_length
returns-then-body-provider_name_length c =
    let p : c.from-provider_name_length.result ≡ get_or c.args.body.now 1 0 = search rules in
    sym (service_bad c.args.body.now (λ e. omega arith))

pub returns-then-body-provider_name_length-2 : goal.returns-then-body-provider_name_length-2
returns-then-body-provider_name_length-2 c =
    let b = c.args.body.now in
    let p : c.from-provider_name_length.result ≡ get_or b 1 0 = search rules in
    let n : c.from-service_name_length.result ≡ get_or b (2 + c.from-provider_name_length.result) 0 = search rules in
    let n' = n ∙ ap (λ (k : ℕ). get_or b (2 + k) 0) p in
    sym (service_bad b (λ e. c.if-body-provider_name_length-2.true (omega arith)))

pub returns : goal.returns
returns c = sym (service_good c.args.body.now c.from-provider_name_length.result c.from-service_name_length.result (search rules) (search rules) c.if-body-provider_name_length-2.false)
