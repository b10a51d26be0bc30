-- Counts that are added (profile).
use Rattle.std.specs.Prelude.{ℕ, zero, suc, ◌+◌, min, None}
use Rattle.reading.specs.declared.report.Report.{Report}

abbrev pub nothing_counted : Report
nothing_counted = record { framed = 0; malformed = 0; unmapped = 0; bad = 0; losses = 0; lost = 0; stopped = None }

-- a count with so many more: it stops at the largest number of 64 bits
abbrev pub sum_within : ℕ → ℕ → ℕ
sum_within a zero = a
sum_within a (suc b) = min (a + suc b) 18446744073709551615

-- a report with the other's counts added
abbrev pub with_counts : Report → Report → Report
with_counts r s = record r {
  framed = sum_within r.framed s.framed;
  malformed = sum_within r.malformed s.malformed;
  unmapped = sum_within r.unmapped s.unmapped;
  bad = sum_within r.bad s.bad;
  losses = sum_within r.losses s.losses;
  lost = sum_within r.lost s.lost;
}
