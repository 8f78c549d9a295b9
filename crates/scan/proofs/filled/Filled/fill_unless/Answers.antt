use Rattle.std.proofs.Common.{◌<◌, length, refl, arith}
use Rattle.scan.proofs.Filling.{kept_next}
use Rattle.scan.proofs.filled.Filled.fill_unless.Goals as goal

pub returns-clause-kept : goal.returns-clause-kept
returns-clause-kept g c =
    let f = c.args.self.now in
    let fits = f.fits in
    let h : f.used < length f.places.now = omega arith in
    kept_next f _ c.args.next h refl refl refl
