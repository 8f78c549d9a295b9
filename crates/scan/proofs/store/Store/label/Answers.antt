use Rattle.scan.proofs.Stores.{stored}
use Rattle.scan.proofs.store.Store.label.Goals as goal

pub returns-clause-here : goal.returns-clause-here
returns-clause-here g c = (stored c.args.self.now c.args.place c.index-places-place.result c.requires.chained c.requires.written c.index-places-place.is).0

pub returns-clause-next : goal.returns-clause-next
returns-clause-next g c = (stored c.args.self.now c.args.place c.index-places-place.result c.requires.chained c.requires.written c.index-places-place.is).1
