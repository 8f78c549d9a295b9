use Rattle.std.proofs.Common.{refl}
use Rattle.std.proofs.lemmas.List.{take_more_set}
use Rattle.scan.specs.Stores.{as_filled}
use Rattle.scan.proofs.Filling.{kept_next}
use Rattle.scan.proofs.store.Store.fill.Goals as goal

pub returns-clause-filled : goal.returns-clause-filled
returns-clause-filled g c = take_more_set c.args.self.now.places.now c.args.self.now.used _ c.requires.room

pub returns-clause-kept : goal.returns-clause-kept
returns-clause-kept g c = kept_next (as_filled c.args.self.now) _ _ c.requires.room refl refl refl
