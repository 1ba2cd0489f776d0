-- The names whose symbols are wanted are in the table.
use Rattle.std.proofs.Common.{◌≡◌, ℕ, zero, suc, ◌<◌, List, [], ◌∷◌, length, Option, Some, None, refl, sym, ◌∙◌, ap}
use Rattle.std.specs.Prelude.{slice_get}
use Rattle.base.specs.declared.datum.Name.{Name}
use Rattle.base.specs.AllOf.{all_at}
use Rattle.mid_arena.specs.FixedWords.{nil_text}
use Rattle.mid_start.specs.NamedSymbols.{AreNamed}
use Rattle.flat_language.specs.declared.program.FlatProgram.{FlatProgram}
use Rattle.back_words.specs.Asked.{NamesAsked}
use Rattle.back_words.specs.Uses.{symbols_among, program_uses}
use Rattle.back_uses.specs.declared.used.UsedNames.{UsedNames}
use Rattle.back_uses.specs.Used.{AreUsed, named}

abbrev number : Option Name → Option ℕ
number None = None
number (Some name) = Some name.0

numbered : (ns : List ℕ) (i : ℕ) → slice_get ns i ≡ number (slice_get (named ns) i)
numbered [] zero = refl
numbered [] (suc i) = refl
numbered (n ∷ ns) zero = refl
numbered (n ∷ ns) (suc i) = numbered ns i

pub are_named : (names : List (List ℕ)) (program : FlatProgram) (used : UsedNames) → AreUsed (program_uses names program) used
    → NamesAsked names program → ((i : ℕ) → slice_get names i ≡ Some nil_text → ⊥) → AreNamed names used.symbols
are_named names program used are asked no_nil = record {
  there = λ i name here.
      all_at (λ n. n < length names) (symbols_among (program_uses names program)) i name.0 asked.symbols
      (numbered (symbols_among (program_uses names program)) i
      ∙ ap number (ap (λ l. slice_get l i) (sym are.symbols) ∙ here));
  no_nil = no_nil;
}
