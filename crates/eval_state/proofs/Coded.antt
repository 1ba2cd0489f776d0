-- What is looked up in a program.
use Rattle.std.proofs.Common.{◌≡◌, ℕ, Option, Some, None, refl, ◌∙◌, ap}
use Rattle.std.specs.Prelude.{option_map}
use Rattle.flat_language.specs.declared.program.FlatProcedure.{FlatProcedure}
use Rattle.eval_state.specs.Sizes.{procedure_words}

-- the code, with its words
pub code_found : (o : Option FlatProcedure) (p : FlatProcedure) (words : ℕ) → o ≡ Some p → Some words ≡ option_map procedure_words o → words ≡ procedure_words p
code_found o p words e w =
    let f : Some words ≡ Some (procedure_words p) = w ∙ ap (option_map procedure_words) e in cc

-- what has words is there
pub no_words : (o : Option FlatProcedure) → None ≡ option_map procedure_words o → o ≡ None
no_words None e = refl
no_words (Some p) e = absurd (cc)
