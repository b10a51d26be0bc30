-- What comes out of a relay is analysed and written, packet by packet and block by block.
use Rattle.std.proofs.Common.{◌≡◌, ℕ, List, [], ◌∷◌, ◌++◌, true, Option, take, drop, length, get_or, ◌<◌, ◌+◌, refl, ap, sym, subst, ◌∙◌, append_assoc, append-nil}
use Rattle.std.proofs.lemmas.Grind.{flat_map-append}
use Rattle.std.proofs.lemmas.List.{take_more, take-append-drop}
use Rattle.std.proofs.lemmas.Result.{on_ok_weaker}
use Rattle.std.specs.Prelude.{Result, Ok, Err, OnOk, OnErr, MatchResult}
use Rattle.std.specs.Io.KnownBytes.{Appends}
use Rattle.reading.specs.Failures.{FailsOnce}
use Rattle.relay.specs.Relays.{ReceiverValue}
use Rattle.outlet.specs.Sending.{bytes_of, HasAnalysed}
use Rattle.outlet.specs.Written.{Sends, SendsBeginning}
use Rattle.outlet.specs.declared.run_fault.RunFault.{RunFault}
use Rattle.outlet.specs.declared.run_fault.RunFault.TheVariants.{Memory, Write}
use Rattle.outlet.specs.declared.slot_writer.SlotWriter.{SlotWriter}
use Rattle.outlet.proofs.KnownLaws.{appends_nothing, beginning_on}
use Rattle.outcome.proofs.WrittenLaws.{sends_on, all_sent, part_sent}
use Rattle.outlet.proofs.SendingLaws.{on_ok_always, on_err_weaker, same_err}
use Rattle.handing.specs.Outputs.{packets_in, IsPut, IsWritten}
use Rattle.outlet.specs.declared.outlet.Outlet.{Outlet}
use Rattle.outcome.proofs.ResultLaws.{ok_no_err, not_write, not_ok, is_failed, is_fine}

pub bytes_behind : (xs ys : List (List ℕ)) → bytes_of (xs ++ ys) ≡ bytes_of xs ++ bytes_of ys
bytes_behind xs ys = flat_map-append (λ (q : List ℕ). q) xs ys

-- one packet more

bytes_push : (waiting : List ℕ) (packets : List (List ℕ)) (packet : List ℕ) → (waiting ++ bytes_of packets) ++ packet ≡ waiting ++ bytes_of (packets ++ packet ∷ [])
bytes_push waiting packets packet =
    let last = bytes_behind packets (packet ∷ []) ∙ ap (λ v. bytes_of packets ++ v) (append-nil packet) in
    append_assoc waiting (bytes_of packets) packet ∙ ap (λ v. waiting ++ v) (sym last)

-- These packets were analysed and written, but for what waits in the buffer.
pub record Puts {W : Type 0} (contents : W → Option (List ℕ)) (failures : W → ℕ) (a : Outlet W) (packets : List (List ℕ)) (b : Outlet W) : Type 0 where
  pub analysed : (rate period : ℕ) (slots : List (List ℕ)) → HasAnalysed a.output rate period slots → HasAnalysed b.output rate period (slots ++ packets)
  pub written : Sends (contents a.sink) (contents b.sink) (a.output.writer ++ bytes_of packets) b.output.writer
  pub unfailed : failures b.sink ≡ failures a.sink

pub puts_nothing : {W : Type 0} (contents : W → Option (List ℕ)) (failures : W → ℕ) (a : Outlet W) → Puts contents failures a [] a
puts_nothing contents failures a = record {
  analysed = λ rate period slots is.
      (let P : List (List ℕ) → Type 0 = HasAnalysed a.output rate period in
      subst P (sym (append-nil slots)) is);
  written = ([], appends_nothing (contents a.sink), append-nil a.output.writer);
  unfailed = refl;
}

pub puts_packet : {W : Type 0} (contents : W → Option (List ℕ)) (failures : W → ℕ) (a : Outlet W) (packets : List (List ℕ)) (b : Outlet W) (packet : List ℕ) (c : Outlet W)
    → Puts contents failures a packets b
    → ((rate period : ℕ) (slots : List (List ℕ)) → HasAnalysed b.output rate period slots → HasAnalysed c.output rate period (slots ++ packet ∷ []))
    → Sends (contents b.sink) (contents c.sink) (b.output.writer ++ packet) c.output.writer → failures c.sink ≡ failures b.sink
    → Puts contents failures a (packets ++ packet ∷ []) c
puts_packet contents failures a packets b packet c w more sends same = record {
  analysed = λ rate period slots is.
      (let P : List (List ℕ) → Type 0 = HasAnalysed c.output rate period in
      subst P (append_assoc slots packets (packet ∷ [])) (more rate period (slots ++ packets) (w.analysed rate period slots is)));
  written = (let S : List ℕ → Type 0 = λ v. Sends (contents a.sink) (contents c.sink) v c.output.writer in
      subst S (bytes_push a.output.writer packets packet)
      (sends_on (contents a.sink) (contents b.sink) (contents c.sink) (a.output.writer ++ bytes_of packets) b.output.writer packet c.output.writer w.written sends));
  unfailed = same ∙ w.unfailed;
}

-- The packets of a block, one behind the other.

pub one_taken : (xs : List (List ℕ)) (k : ℕ) (x : List ℕ) → k < length xs → x ≡ get_or xs k x → take k xs ++ x ∷ [] ≡ take (k + 1) xs
one_taken xs k x within is = sym (take_more xs k x within ∙ ap (λ v. take k xs ++ v ∷ []) (sym is))

pub parted : (xs : List (List ℕ)) (k : ℕ) (x : List ℕ) → k < length xs → x ≡ get_or xs k x → (take k xs ++ x ∷ []) ++ drop (k + 1) xs ≡ xs
parted xs k x within is = ap (λ v. v ++ drop (k + 1) xs) (one_taken xs k x within is) ∙ take-append-drop (k + 1) xs

-- all were
pub puts_all : {W T : Type 0} (contents : W → Option (List ℕ)) (failures : W → ℕ) (a : Outlet W) (packets : List (List ℕ)) (b : Outlet W) (x : T) → Puts contents failures a packets b
    → IsPut contents failures a packets b (Ok x)
puts_all contents failures a packets b x w = record {
  analysed = w.analysed;
  written = w.written;
  begun = tt;
  unfailed = w.unfailed;
  memory = λ e. absurd (ok_no_err x Memory e);
  failed = λ e. absurd (ok_no_err x Write e);
}

-- One was not: this is answered. These are behind it.
pub fails_packet : {W T S : Type 0} (contents : W → Option (List ℕ)) (failures : W → ℕ) (a : Outlet W) (packets : List (List ℕ)) (b : Outlet W) (packet : List ℕ) (rest : List (List ℕ)) (c : Outlet W) (put : Result T RunFault) (fault : RunFault) (r : Result S RunFault)
    → Puts contents failures a packets b → put ≡ Err fault → r ≡ Err fault
    → OnErr put (SendsBeginning (contents b.sink) (contents c.sink) (b.output.writer ++ packet))
    → (put ≡ Err Memory → c.sink ≡ b.sink) → (put ≡ Err Write → FailsOnce (failures b.sink) (failures c.sink))
    → IsPut contents failures a ((packets ++ packet ∷ []) ++ rest) c r
fails_packet {W} {T} {S} contents failures a packets b packet rest c put fault r w is answered begun memory failed =
    let part = is_failed put fault is begun in
    let sent = sends_on (contents a.sink) (contents b.sink) (contents c.sink) (a.output.writer ++ bytes_of packets) b.output.writer packet part.0 w.written part.1 in
    let B : List ℕ → Type 0 = SendsBeginning (contents a.sink) (contents c.sink) in
    let so_far : B (a.output.writer ++ bytes_of (packets ++ packet ∷ [])) = subst B (bytes_push a.output.writer packets packet) (part.0, sent) in
    let given = a.output.writer ++ bytes_of (packets ++ packet ∷ []) in
    let all : given ++ bytes_of rest ≡ a.output.writer ++ bytes_of ((packets ++ packet ∷ []) ++ rest) =
    append_assoc a.output.writer (bytes_of (packets ++ packet ∷ [])) (bytes_of rest) ∙ ap (λ v. a.output.writer ++ v) (sym (bytes_behind (packets ++ packet ∷ []) rest)) in
    let O : Result S RunFault → Type 0 = λ v. OnErr v (B (a.output.writer ++ bytes_of ((packets ++ packet ∷ []) ++ rest))) in
    let same : (f : RunFault) → r ≡ Err f → put ≡ Err f = λ f e. is ∙ ap Err (same_err r fault f answered e) in
    record {
      analysed = not_ok _ r fault answered;
      written = not_ok _ r fault answered;
      begun = subst O (sym answered) (subst B all (beginning_on (contents a.sink) (contents c.sink) given (bytes_of rest) so_far));
      unfailed = not_ok _ r fault answered;
      memory = λ e. ap (λ v. failures v) (memory (same Memory e)) ∙ w.unfailed;
      failed = λ e. (let F : ℕ → Type 0 = λ n. FailsOnce n (failures c.sink) in subst F w.unfailed (failed (same Write e)));
    }

-- one block more

packets_push : (blocks : List (List (List ℕ))) (block : List (List ℕ)) → packets_in (blocks ++ block ∷ []) ≡ packets_in blocks ++ block
packets_push blocks block =
    flat_map-append (λ (x : List (List ℕ)). x) blocks (block ∷ []) ∙ ap (λ v. packets_in blocks ++ v) (append-nil block)

bytes_block : (waiting : List ℕ) (blocks : List (List (List ℕ))) (block : List (List ℕ)) → (waiting ++ bytes_of (packets_in blocks)) ++ bytes_of block ≡ waiting ++ bytes_of (packets_in (blocks ++ block ∷ []))
bytes_block waiting blocks block =
    append_assoc waiting (bytes_of (packets_in blocks)) (bytes_of block)
    ∙ ap (λ v. waiting ++ v) (sym (ap bytes_of (packets_push blocks block) ∙ bytes_behind (packets_in blocks) block))

slots_block : (slots : List (List ℕ)) (blocks : List (List (List ℕ))) (block : List (List ℕ)) → (slots ++ packets_in blocks) ++ block ≡ slots ++ packets_in (blocks ++ block ∷ [])
slots_block slots blocks block = append_assoc slots (packets_in blocks) block ∙ ap (λ v. slots ++ v) (sym (packets_push blocks block))

-- These blocks came out of the relay, and their packets were analysed and written, but for what waits in the buffer.
pub record Writes {W : Type 0} (contents : W → Option (List ℕ)) (failures : W → ℕ) (old : ReceiverValue) (a : Outlet W) (new : ReceiverValue) (b : Outlet W) : Type 0 where
  pub taken : List (List (List ℕ))
  pub relay : new.relay ≡ old.relay
  pub received : new.received ≡ old.received ++ taken
  pub analysed : (rate period : ℕ) (slots : List (List ℕ)) → HasAnalysed a.output rate period slots → HasAnalysed b.output rate period (slots ++ packets_in taken)
  pub written : Sends (contents a.sink) (contents b.sink) (a.output.writer ++ bytes_of (packets_in taken)) b.output.writer
  pub unfailed : failures b.sink ≡ failures a.sink

pub writes_nothing : {W : Type 0} (contents : W → Option (List ℕ)) (failures : W → ℕ) (receiver : ReceiverValue) (a : Outlet W) → Writes contents failures receiver a receiver a
writes_nothing contents failures receiver a = record {
  taken = [];
  relay = refl;
  received = sym (append-nil receiver.received);
  analysed = λ rate period slots is.
      (let P : List (List ℕ) → Type 0 = HasAnalysed a.output rate period in
      subst P (sym (append-nil slots)) is);
  written = ([], appends_nothing (contents a.sink), append-nil a.output.writer);
  unfailed = refl;
}

-- A block came out of the relay. How many went back to the sender isn't said.
pub record Comes (old : ReceiverValue) (block : List (List ℕ)) (new : ReceiverValue) : Type 0 where
  pub relay : new.relay ≡ old.relay
  pub received : new.received ≡ old.received ++ block ∷ []

pub comes : (old new : ReceiverValue) (block : List (List ℕ)) → new ≡ record old { received = old.received ++ block ∷ [] } → Comes old block new
comes old new block is = record { relay = ap (λ (e : ReceiverValue). e.relay) is; received = ap (λ (e : ReceiverValue). e.received) is }

-- it went back, or it didn't
pub gave_back : {T E : Type 0} (Q : E → Type 0) (r : Result T E) (old mid new : ReceiverValue) (block : List (List ℕ)) → Comes old block mid
    → MatchResult r (λ _. new ≡ record mid { returned = mid.returned + 1 }) (λ back. Q back × (new ≡ mid)) → Comes old block new
gave_back Q (Ok x) old mid new block came is = record { relay = ap (λ (e : ReceiverValue). e.relay) is ∙ came.relay; received = ap (λ (e : ReceiverValue). e.received) is ∙ came.received }
gave_back Q (Err x) old mid new block came is = record { relay = ap (λ (e : ReceiverValue). e.relay) is.1 ∙ came.relay; received = ap (λ (e : ReceiverValue). e.received) is.1 ∙ came.received }

came_received : (old mid : ReceiverValue) (taken : List (List (List ℕ))) (block : List (List ℕ)) (new : ReceiverValue) → Comes mid block new → mid.received ≡ old.received ++ taken → new.received ≡ old.received ++ (taken ++ block ∷ [])
came_received old mid taken block new came received =
    came.received ∙ (ap (λ v. v ++ block ∷ []) received ∙ append_assoc old.received taken (block ∷ []))

-- its packets were analysed and written
pub writes_block : {W T : Type 0} (contents : W → Option (List ℕ)) (failures : W → ℕ) (old : ReceiverValue) (a : Outlet W) (mid : ReceiverValue) (b : Outlet W) (block : List (List ℕ)) (new : ReceiverValue) (c : Outlet W) (put : Result T RunFault) (done : T)
    → Writes contents failures old a mid b → Comes mid block new → put ≡ Ok done → IsPut contents failures b block c put
    → Writes contents failures old a new c
writes_block contents failures old a mid b block new c put done w came is put_is =
    let sends = is_fine put done is put_is.written in
    let more = is_fine put done is put_is.analysed in
    record {
      taken = w.taken ++ block ∷ [];
      relay = came.relay ∙ w.relay;
      received = came_received old mid w.taken block new came w.received;
      analysed = λ rate period slots is.
          (let P : List (List ℕ) → Type 0 = HasAnalysed c.output rate period in
          subst P (slots_block slots w.taken block) (more rate period (slots ++ packets_in w.taken) (w.analysed rate period slots is)));
      written = (let S : List ℕ → Type 0 = λ v. Sends (contents a.sink) (contents c.sink) v c.output.writer in
          subst S (bytes_block a.output.writer w.taken block)
          (sends_on (contents a.sink) (contents b.sink) (contents c.sink) (a.output.writer ++ bytes_of (packets_in w.taken)) b.output.writer (bytes_of block) c.output.writer w.written sends));
      unfailed = is_fine put done is put_is.unfailed ∙ w.unfailed;
    }

-- they were not: this is answered
pub fails_block : {W T S : Type 0} (contents : W → Option (List ℕ)) (failures : W → ℕ) (old : ReceiverValue) (a : Outlet W) (mid : ReceiverValue) (b : Outlet W) (block : List (List ℕ)) (new : ReceiverValue) (c : Outlet W) (put : Result T RunFault) (fault : RunFault) (r : Result S RunFault)
    → Writes contents failures old a mid b → Comes mid block new → put ≡ Err fault → r ≡ Err fault → IsPut contents failures b block c put
    → IsWritten contents failures old a new c r
fails_block {W} {T} {S} contents failures old a mid b block new c put fault r w came is answered put_is =
    let part = is_failed put fault is put_is.begun in
    let sent = sends_on (contents a.sink) (contents b.sink) (contents c.sink) (a.output.writer ++ bytes_of (packets_in w.taken)) b.output.writer (bytes_of block) part.0 w.written part.1 in
    let B : List ℕ → Type 0 = SendsBeginning (contents a.sink) (contents c.sink) in
    let O : Result S RunFault → Type 0 = λ v. OnErr v (B (a.output.writer ++ bytes_of (packets_in (w.taken ++ block ∷ [])))) in
    let same : (f : RunFault) → r ≡ Err f → put ≡ Err f = λ f e. is ∙ ap Err (same_err r fault f answered e) in
    record {
      taken = w.taken ++ block ∷ [];
      relay = came.relay ∙ w.relay;
      received = came_received old mid w.taken block new came w.received;
      ended = not_ok _ r fault answered;
      analysed = not_ok _ r fault answered;
      written = not_ok _ r fault answered;
      begun = subst O (sym answered) (subst B (bytes_block a.output.writer w.taken block) (part.0, sent));
      unfailed = not_ok _ r fault answered;
      memory = λ e. put_is.memory (same Memory e) ∙ w.unfailed;
      failed = λ e. (let F : ℕ → Type 0 = λ n. FailsOnce n (failures c.sink) in subst F w.unfailed (put_is.failed (same Write e)));
    }

-- The end mark came, and the buffer was written.

analysed_flushed : (b c : SlotWriter) (rate period : ℕ) (slots : List (List ℕ)) → c ≡ record b { writer = [] } → HasAnalysed b rate period slots → HasAnalysed c rate period slots
analysed_flushed b c rate period slots e is =
    let P : SlotWriter → Type 0 = λ o. HasAnalysed o rate period slots in
    subst P (sym e) (record { seen = is.seen; rate_is = is.rate_is; period_is = is.period_is; faults_are = is.faults_are; reported = is.reported })

flush_failed : {T P : Type 0} (r : Result T RunFault) (fault : RunFault) → r ≡ Err fault → OnErr r ((r ≡ Err Write) × P) → (fault ≡ Write) × P
flush_failed r fault is on =
    let both = is_failed r fault is on in
    (same_err r fault Write is both.0, both.1)

pub writes_flushed : {W T : Type 0} (contents : W → Option (List ℕ)) (failures : W → ℕ) (old : ReceiverValue) (a : Outlet W) (mid : ReceiverValue) (b : Outlet W) (new : ReceiverValue) (c : Outlet W) (r : Result T RunFault)
    → Writes contents failures old a mid b → new ≡ record mid { is_ended = true } → c.output ≡ record b.output { writer = [] }
    → OnOk r (Appends (contents b.sink) (contents c.sink) b.output.writer) → OnErr r (SendsBeginning (contents b.sink) (contents c.sink) b.output.writer)
    → OnOk r (failures c.sink ≡ failures b.sink) → OnErr r ((r ≡ Err Write) × FailsOnce (failures b.sink) (failures c.sink))
    → IsWritten contents failures old a new c r
writes_flushed {W} {T} contents failures old a mid b new c r w came stays all part same failed =
    let given = a.output.writer ++ bytes_of (packets_in w.taken) in
    record {
      taken = w.taken;
      relay = ap (λ (e : ReceiverValue). e.relay) came ∙ w.relay;
      received = ap (λ (e : ReceiverValue). e.received) came ∙ w.received;
      ended = on_ok_always r (ap (λ (e : ReceiverValue). e.is_ended) came);
      analysed = on_ok_always r (λ rate period slots is. analysed_flushed b.output c.output rate period (slots ++ packets_in w.taken) stays (w.analysed rate period slots is));
      written = on_ok_weaker r (λ x. all_sent (contents a.sink) (contents b.sink) (contents c.sink) given b.output.writer w.written x) all;
      begun = on_err_weaker r (λ x. part_sent (contents a.sink) (contents b.sink) (contents c.sink) given b.output.writer w.written x) part;
      unfailed = on_ok_weaker r (λ e. e ∙ w.unfailed) same;
      memory = λ e. (let both = flush_failed r Memory e failed in absurd (not_write both.0));
      failed = λ e.
          (let F : ℕ → Type 0 = λ n. FailsOnce n (failures c.sink) in
          let both = flush_failed r Write e failed in
          subst F w.unfailed both.1);
    }

-- Nothing came, and what waited in the buffer was written, or not.

waiting_sent : (contents_a contents_b contents_c : Option (List ℕ)) (given waiting now : List ℕ) → Sends contents_a contents_b given waiting → Sends contents_b contents_c (waiting ++ bytes_of []) now → Sends contents_a contents_c given now
waiting_sent contents_a contents_b contents_c given waiting now first second =
    let S : List ℕ → Type 0 = λ v. Sends contents_a contents_c v now in
    subst S (append-nil given) (sends_on contents_a contents_b contents_c given waiting [] now first second)

pub put_none : {W T : Type 0} (contents : W → Option (List ℕ)) (failures : W → ℕ) (a : Outlet W) (x : T) → IsPut contents failures a [] a (Ok x)
put_none contents failures a x = puts_all contents failures a [] a x (puts_nothing contents failures a)

pub puts_flushed : {W T : Type 0} (contents : W → Option (List ℕ)) (failures : W → ℕ) (a c : Outlet W) (r : Result T RunFault) → c.output ≡ record a.output { writer = [] }
    → OnOk r (Appends (contents a.sink) (contents c.sink) a.output.writer) → OnErr r (SendsBeginning (contents a.sink) (contents c.sink) a.output.writer)
    → OnOk r (failures c.sink ≡ failures a.sink) → OnErr r ((r ≡ Err Write) × FailsOnce (failures a.sink) (failures c.sink))
    → IsPut contents failures a [] c r
puts_flushed {W} {T} contents failures a c r stays all part same failed =
    let waiting = a.output.writer in
    let none : [] ≡ c.output.writer = ap (λ (o : SlotWriter). o.writer) (sym stays) in
    let B : List ℕ → Type 0 = SendsBeginning (contents a.sink) (contents c.sink) in
    record {
      analysed = on_ok_always r
          (λ rate period slots is.
          let P : List (List ℕ) → Type 0 = HasAnalysed c.output rate period in
          subst P (sym (append-nil slots)) (analysed_flushed a.output c.output rate period slots stays is));
      written = on_ok_weaker r (λ out. (waiting, out, ap (λ v. waiting ++ v) none)) all;
      begun = on_err_weaker r (λ out. subst B (sym (append-nil waiting)) out) part;
      unfailed = same;
      memory = λ e. (let both = flush_failed r Memory e failed in absurd (not_write both.0));
      failed = λ e. (flush_failed r Write e failed).1;
    }

pub writes_waiting : {W T : Type 0} (contents : W → Option (List ℕ)) (failures : W → ℕ) (old : ReceiverValue) (a : Outlet W) (mid : ReceiverValue) (b : Outlet W) (new : ReceiverValue) (c : Outlet W) (put : Result T RunFault) (done : T)
    → Writes contents failures old a mid b → new ≡ mid → put ≡ Ok done → IsPut contents failures b [] c put → Writes contents failures old a new c
writes_waiting contents failures old a mid b new c put done w still is put_is =
    let sends = is_fine put done is put_is.written in
    let more = is_fine put done is put_is.analysed in
    record {
      taken = w.taken;
      relay = ap (λ (e : ReceiverValue). e.relay) still ∙ w.relay;
      received = ap (λ (e : ReceiverValue). e.received) still ∙ w.received;
      analysed = λ rate period slots is'.
          (let P : List (List ℕ) → Type 0 = HasAnalysed c.output rate period in
          let all = slots ++ packets_in w.taken in
          subst P (append-nil all) (more rate period all (w.analysed rate period slots is')));
      written = waiting_sent (contents a.sink) (contents b.sink) (contents c.sink) (a.output.writer ++ bytes_of (packets_in w.taken)) b.output.writer c.output.writer w.written sends;
      unfailed = is_fine put done is put_is.unfailed ∙ w.unfailed;
    }

-- this is answered where it failed
pub fails_waiting : {W T S : Type 0} (contents : W → Option (List ℕ)) (failures : W → ℕ) (old : ReceiverValue) (a : Outlet W) (mid : ReceiverValue) (b : Outlet W) (new : ReceiverValue) (c : Outlet W) (put : Result T RunFault) (fault : RunFault) (r : Result S RunFault)
    → Writes contents failures old a mid b → new ≡ mid → put ≡ Err fault → r ≡ Err fault → IsPut contents failures b [] c put → IsWritten contents failures old a new c r
fails_waiting {W} {T} {S} contents failures old a mid b new c put fault r w still is answered put_is =
    let part = is_failed put fault is put_is.begun in
    let B : List ℕ → Type 0 = SendsBeginning (contents a.sink) (contents c.sink) in
    let given = a.output.writer ++ bytes_of (packets_in w.taken) in
    let sent : B given = (part.0, waiting_sent (contents a.sink) (contents b.sink) (contents c.sink) given b.output.writer part.0 w.written part.1) in
    let O : Result S RunFault → Type 0 = λ v. OnErr v (B given) in
    let same : (f : RunFault) → r ≡ Err f → put ≡ Err f = λ f e. is ∙ ap Err (same_err r fault f answered e) in
    record {
      taken = w.taken;
      relay = ap (λ (e : ReceiverValue). e.relay) still ∙ w.relay;
      received = ap (λ (e : ReceiverValue). e.received) still ∙ w.received;
      ended = not_ok _ r fault answered;
      analysed = not_ok _ r fault answered;
      written = not_ok _ r fault answered;
      begun = subst O (sym answered) sent;
      unfailed = not_ok _ r fault answered;
      memory = λ e. put_is.memory (same Memory e) ∙ w.unfailed;
      failed = λ e. (let F : ℕ → Type 0 = λ n. FailsOnce n (failures c.sink) in subst F w.unfailed (put_is.failed (same Write e)));
    }
