-- The first words of lines, and what kind of line each begins.
-- Assumes nothing.
use Rattle.std.specs.Prelude.{ℕ, cond, List, Option, Some, None, codes}
use Rattle.std.specs.Str.{bytes_eq}
use Rattle.case_lines.specs.declared.keyword.EntryWord.{EntryWord}
use Rattle.case_lines.specs.declared.keyword.EntryWord.TheVariants.{Cancel, Reinstate, Delay}
use Rattle.case_lines.specs.declared.keyword.Keyword.{Keyword}
use Rattle.case_lines.specs.declared.keyword.Keyword.TheVariants.{Case, Table, Ask, Load, Entry}
use Rattle.case_lines.specs.declared.keyword.LoadWord.{LoadWord}
use Rattle.case_lines.specs.declared.keyword.LoadWord.TheVariants as loads

-- a word of what a board was loaded with, but for a table's
abbrev pub load_word_of : List ℕ → Option LoadWord
load_word_of word =
    cond (bytes_eq word (codes "hop")) (Some loads.Hop)
    (cond (bytes_eq word (codes "stop")) (Some loads.Stop)
    (cond (bytes_eq word (codes "path")) (Some loads.Path)
    (cond (bytes_eq word (codes "rule")) (Some loads.Rule)
    (cond (bytes_eq word (codes "list")) (Some loads.List)
    (cond (bytes_eq word (codes "line")) (Some loads.Line)
    (cond (bytes_eq word (codes "measure")) (Some loads.Measure)
    (cond (bytes_eq word (codes "ladder")) (Some loads.Ladder)
    (cond (bytes_eq word (codes "surcharge")) (Some loads.Surcharge)
    (cond (bytes_eq word (codes "room")) (Some loads.Room)
    None)))))))))

-- a word of a log, but for a question's
abbrev pub entry_word_of : List ℕ → Option EntryWord
entry_word_of word =
    cond (bytes_eq word (codes "cancel")) (Some Cancel)
    (cond (bytes_eq word (codes "reinstate")) (Some Reinstate)
    (cond (bytes_eq word (codes "delay")) (Some Delay)
    None))

-- what is said by the first word that has a meaning, if one has
abbrev pub either_word : Option EntryWord → Option LoadWord → Option Keyword
either_word (Some entry) load = Some (Entry entry)
either_word None (Some load) = Some (Load load)
either_word None None = None

-- what kind of line it is
abbrev pub keyword_of : List ℕ → Option Keyword
keyword_of word =
    cond (bytes_eq word (codes "ask")) (Some Ask)
    (cond (bytes_eq word (codes "case")) (Some Case)
    (cond (bytes_eq word (codes "table")) (Some Table)
    (either_word (entry_word_of word) (load_word_of word))))
