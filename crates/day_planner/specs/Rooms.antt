-- Memories of the same room, boards asked alike, answers that are the same, and sheets that never differ, in the same room or in any.
-- Assumes nothing.
use Rattle.std.specs.Prelude.{◌≡◌, Bool, true, List, length, take, Ok, Err, IsOk, Result}
use Rattle.journeys.specs.declared.question.Question.{Question}
use Rattle.planner.specs.declared.answer.Answer.{Answer}
use Rattle.planner.specs.declared.refusal.Refusal.{Refusal}
use Rattle.planner.specs.declared.refused.Refused.{Refused}
use Rattle.planner.specs.declared.refused.Refused.TheVariants.{First, Second}
use Rattle.planner.specs.Outcome.{Memory, Outcome}
use Rattle.day_planner.specs.declared.entry.Entry.{Entry}
use Rattle.day_planner.specs.Log.{Basis}

-- the four lists of one memory are as long as those of another
pub record SameRoom {S : Type 0} (m n : Memory S) : Type 0 where
  pub labels : length n.labels ≡ length m.labels
  pub aboard : length n.aboard ≡ length m.aboard
  pub sheet : length n.sheet ≡ length m.sheet
  pub legs : length n.legs ≡ length m.legs

-- what an answer says was written is the same in two memories: the labels, the sheet's bytes and the legs
pub record SameWriting {S : Type 0} (a : Answer) (m n : Memory S) : Type 0 where
  pub count : m.written ≡ n.written
  pub labels : take a.labels m.labels ≡ take a.labels n.labels
  pub sheet : take a.bytes m.sheet ≡ take a.bytes n.sheet
  pub legs : take a.legs m.legs ≡ take a.legs n.legs

-- nothing is said of what a refused question leaves
abbrev pub AnsweredAlike : {S : Type 0} → Result Answer Refusal → Memory S → Memory S → Type 0
AnsweredAlike (Ok a) m n = SameWriting a m n
AnsweredAlike (Err refusal) m n = Unit {0}

-- Two outcomes are the same answer, or the same refusal with its values; and where they are an answer, the same was written.
pub record SameAnswer {S : Type 0} (o p : Outcome S) : Type 0 where
  pub answer : o.answer ≡ p.answer
  pub written : AnsweredAlike o.answer o.left p.left

-- Two boards answer from the same list of hops, the same tariff, measure and network, and are asked the same question after
-- the same log. Nothing is said of the memories that they are lent.
pub record AskedAlike {K W : Type 0} (b : Basis K W) (log : List Entry) (q : Question) (c : Basis K W) (other : List Entry) (p : Question) : Type 0 where
  pub basis : b ≡ c
  pub entries : log ≡ other
  pub question : q ≡ p

-- two outcomes are answers, whichever
pub record BothAnswered {S : Type 0} (o p : Outcome S) : Type 0 where
  pub first : IsOk o.answer
  pub second : IsOk p.answer

-- two boards print the same sheet, or the first refuses
abbrev pub NeverDiffers : Result Bool Refused → Type 0
NeverDiffers (Ok same) = same ≡ true
NeverDiffers (Err (First refusal)) = Unit {0}
NeverDiffers (Err (Second refusal)) = ⊥

-- What two questions come to, each in its memory, and what is told where they are compared.
pub record AnswerAlike {S : Type 0} (m n : Memory S) (o p : Outcome S) (r : Result Bool Refused) : Type 0 where
  -- where both answer, it is the same answer, whatever the room
  pub in_any_room : BothAnswered o p → SameAnswer o p × NeverDiffers r
  -- in the same room it is the same answer or the same refusal
  pub in_same_room : SameRoom m n → SameAnswer o p × NeverDiffers r
