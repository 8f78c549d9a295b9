use Rattle.std.proofs.Common.{◌≡◌, List, subst, ap, ◌∙◌}
use Rattle.fares.specs.FareStates.{start_state}
use Rattle.day_planner.specs.Planners.{day_in, parts_of, basis}
use Rattle.board_replay.specs.Boards.{room_of, blank_memory, day_from}
use Rattle.board_replay.specs.Loading.{handed}
use Rattle.board_replay.specs.Memories.{memory_in}
use Rattle.board_replay.specs.Replays.{log_from, Came, Runs}
use Rattle.board_replay.specs.Streams.{Event, place}
use Rattle.board_replay.proofs.opening.with_measure.Goals as goal

pub returns : goal.returns
returns g c =
    let f = g.F.Tariff.model c.args.tariff in
    let m = g.M.Measure.model c.args.measure in
    let hops = g.T.Timetable.hops c.args.timetable in
    let h = handed c.args.loaded.now in
    let net = c.network.result in
    let basis_is : basis g.T.Timetable.hops g.F.Tariff.model g.M.Measure.model (parts_of c.new-planner.result) net ≡ record { tariff = f; measure = m; hops = hops; stops = h.stops; paths = h.paths } =
    ap (λ p. basis g.T.Timetable.hops g.F.Tariff.model g.M.Measure.model p net) c.new-planner.ensures.parts
    ∙ (λ i. record { tariff = f; measure = m; hops = hops; stops = c.network.ensures.stops i; paths = c.network.ensures.paths i }) in
    let memory_is : memory_in c.in_ok-memory.memory ≡ blank_memory (room_of c.args.loaded.now.room) (start_state f m 0 0) =
    c.in_ok-memory.ensures ∙ ap (λ r. blank_memory r c.blank_state.result) c.room-room.ensures ∙ ap (λ s. blank_memory (room_of c.args.loaded.now.room) s) c.blank_state.ensures in
    let came_is : ◌≡◌ {A = List Event → Came} (log_from (basis g.T.Timetable.hops g.F.Tariff.model g.M.Measure.model (parts_of c.new-planner.result) net) (day_in c.new-planner.result) (memory_in c.in_ok-memory.memory)) (day_from f m hops h) =
    (λ i. log_from (basis_is i) (c.new-planner.ensures.day i) (memory_is i)) in
    record {
      log = subst (λ (came : List Event → Came). Runs came (place g.R.Read.remaining c.args.lines.now) c.run.result (place g.R.Read.remaining c.run.new.lines) (g.W.Write.contents c.args.out.now) (g.W.Write.contents c.run.new.out)) came_is c.run.ensures.log;
      lines = c.run.ensures.lines;
    }
