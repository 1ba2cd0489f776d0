-- The names of classes and the texts of symbols.
use Rattle.std.specs.Prelude.{◌≡◌, ℕ, List, [], slice_get}
use Rattle.lang_meaning.specs.declared.program.ProgramRows.{ProgramRows}
use Rattle.lang_meaning.specs.Values.{symbol, named}
use Rattle.lang_meaning.specs.Primitives.{Spelt, by_name, by_serial, class_name}
use Rattle.eval_store.specs.declared.word.Word.{Word}
use Rattle.eval_store.specs.Words.{value_of_word}
use Rattle.eval_primitives.specs.declared.primitives.Primitives.{Primitives}
use Rattle.eval_primitives.specs.declared.words.Spelt.{Spelt as SpeltWord}
use Rattle.eval_primitives.specs.Words.{spelt_of}
use Rattle.eval_primitives.specs.Computed.{IsFitted}

-- the name of a class
pub record IsNameOf (p : Primitives) (c : ℕ) (w : Word) : Type 0 where
  pub seen : (names : List (List ℕ)) (rows : ProgramRows) → IsFitted names rows p
      → value_of_word names w ≡ symbol (named (class_name names (slice_get rows.classes c)))

-- the text of a symbol, empty for one that the program made
abbrev pub text_of : Spelt → List ℕ
text_of (by_name name) = name
text_of (by_serial serial) = []

pub record IsTextOf (p : Primitives) (x : SpeltWord) (text : List ℕ) : Type 0 where
  pub seen : (names : List (List ℕ)) (rows : ProgramRows) → IsFitted names rows p → text ≡ text_of (spelt_of names x)
