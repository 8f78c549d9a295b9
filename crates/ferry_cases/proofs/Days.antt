-- What a log of one entry makes of the ferry's day.
use Rattle.std.proofs.Common.{◌≡◌, ℕ, zero, suc, false, List, [], ◌∷◌, Result, refl, ap}
use Rattle.timetable.specs.declared.hops.Hop.{Hop}
use Rattle.fares.specs.declared.tickets.Marked.{Marked}
use Rattle.fares.specs.Tariffs.{TariffModel}
use Rattle.journeys.specs.declared.question.Question.{Question}
use Rattle.measures.specs.ZoneSets.{zones_model}
use Rattle.service_day.specs.Changes.{halted}
use Rattle.service_day.specs.Days.{members_below, how_many}
use Rattle.sheet.specs.Refusals.{Cause}
use Rattle.day_planner.specs.declared.entry.Entry.TheVariants.{Cancel, Delay}
use Rattle.day_planner.specs.Log.{hops_after}
use Rattle.planner.specs.Outcome.{asked_of}
use Rattle.ferry_cases.specs.FerryBoard.{hop, ferry, nothing, ferry_hops, ferry_stops, blank_memory}
use Rattle.ferry_cases.specs.FerryCases.{Shown, shown, shown_after}

-- nothing is listed on a first day: this is not counted out, number by number

none_below : (n : ℕ) → members_below (λ t. false) n ≡ 0
unfolding members_below
none_below zero = refl
none_below (suc n) = none_below n

none : how_many (λ t. false) ≡ 0
unfolding how_many
none = none_below _

-- what is seen of a question over some hops
unfoldable pub shown_over : TariffModel (Marked ℕ) → List Hop → Question → ℕ → ℕ → Result Shown Cause
shown_over tariff hops q labels aboard = shown (asked_of tariff zones_model hops ferry_stops [] q (blank_memory labels aboard))

-- trip 1 does not run
abbrev pub without_1 : List Hop
without_1 =
    hop 0 0 1 600 900 ferry
    ∷ halted (hop 1 0 2 600 700 nothing)
    ∷ halted (hop 1 2 1 700 900 nothing)
    ∷ hop 2 1 3 1200 1500 ferry
    ∷ hop 3 1 3 1200 1800 nothing
    ∷ []

-- trip 0 is so many seconds later
abbrev pub with_0_at : ℕ → ℕ → List Hop
with_0_at departure arrival =
    hop 0 0 1 departure arrival ferry
    ∷ hop 1 0 2 600 700 nothing
    ∷ hop 1 2 1 700 900 nothing
    ∷ hop 2 1 3 1200 1500 ferry
    ∷ hop 3 1 3 1200 1800 nothing
    ∷ []

without_1_after : hops_after ferry_hops (Cancel 1 ∷ []) ≡ without_1
without_1_after = rw none

late_after_300 : hops_after ferry_hops (Delay 0 300 ∷ []) ≡ with_0_at 900 1200
late_after_300 = rw none

late_after_301 : hops_after ferry_hops (Delay 0 301 ∷ []) ≡ with_0_at 901 1201
late_after_301 = rw none

-- a log without a question leaves the memory alone, so only the hops make a difference
module _ (tariff : TariffModel (Marked ℕ)) (q : Question) (labels aboard : ℕ) where
  abbrev over : List Hop → Result Shown Cause
  over hops = shown (asked_of tariff zones_model hops ferry_stops [] q (blank_memory labels aboard))

  pub after_nothing : shown_after tariff [] q labels aboard ≡ shown_over tariff ferry_hops q labels aboard
  unfolding shown_after shown_over
  after_nothing = refl

  pub after_cancel : shown_after tariff (Cancel 1 ∷ []) q labels aboard ≡ shown_over tariff without_1 q labels aboard
  unfolding shown_after shown_over
  after_cancel = ap over without_1_after

  pub after_300 : shown_after tariff (Delay 0 300 ∷ []) q labels aboard ≡ shown_over tariff (with_0_at 900 1200) q labels aboard
  unfolding shown_after shown_over
  after_300 = ap over late_after_300

  pub after_301 : shown_after tariff (Delay 0 301 ∷ []) q labels aboard ≡ shown_over tariff (with_0_at 901 1201) q labels aboard
  unfolding shown_after shown_over
  after_301 = ap over late_after_301
