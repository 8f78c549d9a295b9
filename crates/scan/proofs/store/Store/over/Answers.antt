use Rattle.std.proofs.Common.{ℕ, None, Option, refl}
use Rattle.std.proofs.lemmas.List.{get_or-replicate, length-replicate}
use Rattle.scan.specs.Chains.{slots}
use Rattle.scan.proofs.store.Store.over.Goals as goal

pub returns-clause-chained : goal.returns-clause-chained
returns-clause-chained g c =
    record {
      firsts = length-replicate {A = Option ℕ} slots None;
      lasts = length-replicate {A = Option ℕ} slots None;
      linked = refl;
      first = λ k h. get_or-replicate slots k None None h;
      last = λ k h. get_or-replicate slots k None None h;
    }
