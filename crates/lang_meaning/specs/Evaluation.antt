-- What is evaluated, what it means with an input and how it ends then, and what was read of a source.
use Rattle.std.specs.Prelude.{◌≡◌, ℕ, Bool, true, List, [], ◌++◌, Option, Some, IfSome}
use Rattle.lang_meaning.specs.declared.program.ProgramRows.{ProgramRows}
use Rattle.lang_meaning.specs.declared.evaluation.EvaluationEnd.{EvaluationEnd}
use Rattle.lang_meaning.specs.declared.evaluation.EvaluationEnd.TheVariants as endings
use Rattle.lang_meaning.specs.State.{words}
use Rattle.lang_meaning.specs.Meaning.{Meant, Ending, with_value, by_class, for_words, for_levels, ending_of, meaning}

-- the texts of names, the program, the levels, and how many words there are
pub record Evaluation : Type 0 where
  pub names : List (List ℕ)
  pub program : ProgramRows
  pub levels : ℕ
  pub words : ℕ

abbrev pub meaning_with : Evaluation → List ℕ → Meant
meaning_with e input = meaning e.names e.program input e.levels (words e.words)

-- how a program ends, where the meaning says how
abbrev pub end_for : Ending → EvaluationEnd
end_for (with_value v) = endings.Value
end_for (by_class class site) = endings.Unhandled class site
end_for (for_words asked left) = endings.Full asked left
end_for for_levels = endings.More

abbrev pub end_of : Meant → EvaluationEnd
end_of m = end_for (ending_of m.end m.store)

-- the bytes that were read of a source, and whether its end was met behind them
pub record Taken : Type 0 where
  pub bytes : List ℕ
  pub all : Bool

-- an input of which just that is read: it begins with these bytes, and ends there where its end was met
pub record Begins (t : Taken) (input : List ℕ) : Type 0 where
  pub rest : List ℕ
  pub joined : t.bytes ++ rest ≡ input
  pub ends : t.all ≡ true → rest ≡ []

-- a source that told its bytes was read so far, and has left the others
abbrev pub WasTaken : Option (List ℕ) → Taken → Option (List ℕ) → Type 0
WasTaken left t left' = IfSome left (λ input. (b : Begins t input) × (left' ≡ Some b.rest))
