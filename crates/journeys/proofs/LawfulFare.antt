-- The laws of tariff and measure give the laws of the fares that they make over a network.
use Rattle.std.proofs.Common.{List, arith}
use Rattle.std.proofs.lemmas.Bool.{and_parts, and_from}
use Rattle.fares.specs.Limits.{change_event}
use Rattle.fares.specs.Measures.{MeasureModel, MeasureLaws}
use Rattle.fares.specs.Tariffs.{TariffModel, TariffLaws}
use Rattle.fares.proofs.KeepingCovering.{keeps_covering}
use Rattle.journeys.specs.declared.network.Stop.{Stop}
use Rattle.journeys.specs.Fare.{FareLaws}
use Rattle.journeys.specs.NetworkFare.{stop_numbered, fare_over}

pub fare_laws : {K W : Type 0} (t : TariffModel K) (m : MeasureModel W) (stops : List Stop) → TariffLaws t → MeasureLaws m → FareLaws (fare_over t m stops)
fare_laws t m stops tl ml = record {
  transitive = λ q r s c d.
      let a = and_parts (t.covers q.ticket r.ticket) (m.at_most q.weight r.weight) c in
      let b = and_parts (t.covers r.ticket s.ticket) (m.at_most r.weight s.weight) d in
      and_from _ _ (tl.transitive _ _ _ a.0 b.0) (ml.transitive _ _ _ a.1 b.1);
  no_dearer = λ r s c. tl.no_dearer r.ticket s.ticket (and_parts (t.covers r.ticket s.ticket) (m.at_most r.weight s.weight) c).0;
  change_keeps = λ r s c. keeps_covering t m tl ml m.neutral change_event r s (omega arith) c;
  hop_keeps = λ h r s kept c. keeps_covering t m tl ml (m.hop h.metres h.level (stop_numbered stops h.to).zone) h.event r s kept.sixteen_events c;
}
