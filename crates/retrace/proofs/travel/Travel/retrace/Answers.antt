use Rattle.retrace.specs.Travels.{setup_of}
use Rattle.retrace.proofs.Outcomes.{decides}
use Rattle.retrace.proofs.Weighing.{fares, weighs}
use Rattle.retrace.proofs.travel.Travel.retrace.Goals as goal

pub returns-clause-accepts : goal.returns-clause-accepts
returns-clause-accepts g c =
    decides (setup_of g.T.Timetable.hops g.F.Tariff.model g.M.Measure.model c.args.self.now) c.args.legs.now c.args.steps.now c.follow.new.steps c.follow.result c.follow.ensures

pub returns-clause-fares : goal.returns-clause-fares
returns-clause-fares g c =
    fares g.T.Timetable.hops g.F.Tariff.model g.M.Measure.model c.args.self.now c.args.legs.now c.args.steps.now c.follow.new.steps c.follow.result c.follow.ensures

pub returns-clause-weights : goal.returns-clause-weights
returns-clause-weights g c =
    weighs g.T.Timetable.hops g.F.Tariff.model g.M.Measure.model c.args.self.now (g.met.M.LawfulMeasure.lawful c.args.self.now.measure.now) c.args.legs.now c.args.steps.now c.follow.new.steps c.follow.result c.follow.ensures
