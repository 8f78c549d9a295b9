-- The number of the refusal of a log's entry on the refusal board, and the values that it returns.
-- Assumes nothing.
use Rattle.service_day.specs.Refusals.{cause as trip_cause}
use Rattle.sheet.specs.Refusals.{Cause}
use Rattle.planner.specs.Refusals.{cause as question_cause}
use Rattle.day_planner.specs.declared.refusal.Refusal.{Refusal}
use Rattle.day_planner.specs.declared.refusal.Refusal.TheVariants.{Trip, Question}

-- 5 to 8 with the trip for a trip; 9 to 14 for a question, with its values
abbrev pub cause : Refusal → Cause
cause (Trip refusal) = record { number = (trip_cause refusal).number; values = (trip_cause refusal).values }
cause (Question refusal) = question_cause refusal
