-- The memory that a board's questions are lent.
-- Assumes nothing.
use Rattle.planner.specs.Outcome.{Memory as LentMemory}
use Rattle.board_replay.specs.declared.memory.Memory.{Memory}

-- what lies in it, with no label written
abbrev pub memory_in : {S : Type 0} → Memory S → LentMemory S
memory_in m = record { labels = m.labels.items; written = 0; aboard = m.aboard.items; sheet = m.sheet.items; legs = m.legs.items }
