-- What the content of a slot says, by whether the slot has a table.
use Rattle.std.proofs.Common.{List, ◌≡◌, Option, Some, None, refl, sym, subst}
use Rattle.rounds.specs.declared.table_place.TablePlace.{TablePlace}
use Rattle.request.specs.declared.stream.Stream.{Stream}
use Rattle.schedule.specs.Schedule.{ScheduleValue}
use Rattle.mux.specs.declared.content.Content.{Content}
use Rattle.mux.specs.declared.content.Content.TheVariants.{Null, Elementary, Table}
use Rattle.mux.specs.declared.event.Event.{Event}
use Rattle.mux.specs.Lawful.{table_due, IsContent, IsContentAt, IsChoice}

stream_at : (s : ScheduleValue) (h : List Event) (o : Option TablePlace) (st : Stream) → IsContentAt s h o (Elementary st) → (o ≡ None) × IsChoice s h (Elementary st)
stream_at s h (Some place) st e = cc
stream_at s h None st c = (refl, c)

null_at : (s : ScheduleValue) (h : List Event) (o : Option TablePlace) → IsContentAt s h o Null → (o ≡ None) × IsChoice s h Null
null_at s h (Some place) e = cc
null_at s h None c = (refl, c)

table_of : (s : ScheduleValue) (h : List Event) (o : Option TablePlace) (place : TablePlace) → IsContentAt s h o (Table place) → o ≡ Some place
table_of s h (Some other) place e = cc
table_of s h None place c = absurd c

-- a slot with a stream's packet has no table, and carries the choice
pub stream_choice : (s : ScheduleValue) (h : List Event) (st : Stream) → IsContent s h (Elementary st) → IsChoice s h (Elementary st)
stream_choice s h st c = (stream_at s h (table_due s h) st c).1

pub stream_untabled : (s : ScheduleValue) (h : List Event) (st : Stream) → IsContent s h (Elementary st) → table_due s h ≡ None
stream_untabled s h st c = (stream_at s h (table_due s h) st c).0

pub null_untabled : (s : ScheduleValue) (h : List Event) → IsContent s h Null → table_due s h ≡ None
null_untabled s h c = (null_at s h (table_due s h) c).0

pub null_choice : (s : ScheduleValue) (h : List Event) → IsContent s h Null → IsChoice s h Null
null_choice s h c = (null_at s h (table_due s h) c).1

pub table_turn : (s : ScheduleValue) (h : List Event) (place : TablePlace) → IsContent s h (Table place) → table_due s h ≡ Some place
table_turn s h place c = table_of s h (table_due s h) place c

-- and the other way round
pub untabled : (s : ScheduleValue) (h : List Event) (c : Content) → table_due s h ≡ None → IsChoice s h c → IsContent s h c
untabled s h c none choice = let P : Option TablePlace → Type 0 = λ o. IsContentAt s h o c in subst P (sym none) choice

pub tabled : (s : ScheduleValue) (h : List Event) (place : TablePlace) → table_due s h ≡ Some place → IsContent s h (Table place)
tabled s h place due = let P : Option TablePlace → Type 0 = λ o. IsContentAt s h o (Table place) in subst P (sym due) refl
