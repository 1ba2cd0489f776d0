-- What primitives see of a program is what the program has.
use Rattle.std.proofs.Common.{◌≡◌, ℕ, zero, suc, ◌+◌, ◌≤◌, arith, Bool, true, false, List, [], ◌∷◌, length, map, Some, refl, sym, ◌∙◌, ap}
use Rattle.std.specs.Prelude.{slice_get, slice_index_or}
use Rattle.std.proofs.lemmas.Option.{get_or_from_slice_get}
use Rattle.std.proofs.lemmas.List.{get_or_past}
use Rattle.lang_meaning.specs.declared.program.ProgramRows.{ProgramRows}
use Rattle.lang_meaning.specs.declared.program.ClassRow.{ClassRow}
use Rattle.lang_meaning.specs.Objects.{serious_condition_class}
use Rattle.lang_meaning.specs.Classes.{is_below, is_condition, precedence_of}
use Rattle.lang_meaning.specs.Lookup.{is_in}
use Rattle.lang_meaning.specs.Primitives.{instance_words}
use Rattle.flat_language.specs.FlatNodes.{tables}
use Rattle.eval_store.specs.declared.word.Word.{Word}
use Rattle.eval_store.specs.declared.store.Store.{Store}
use Rattle.eval_store.specs.Spelling.{IsSpelling}
use Rattle.eval_store.specs.Words.{value_of_word}
use Rattle.eval_store.specs.View.{Beside, state_of}
use Rattle.eval_store.specs.InitialHeap.{IsInitialHeap}
use Rattle.eval_primitives.specs.declared.primitives.Primitives.{Primitives}
use Rattle.eval_primitives.specs.Serious.{is_serious_row}
use Rattle.eval_primitives.specs.Classing.{HasClassOf}
use Rattle.eval_primitives.specs.Computed.{IsFitted, IsSerious}

-- the table at a class
table_at : (rows : List ClassRow) (c : ℕ) → slice_index_or (map is_serious_row rows) c false ≡ is_in serious_condition_class (precedence_of (slice_get rows c))
table_at [] c = refl
table_at (r ∷ rs) zero = refl
table_at (r ∷ rs) (suc c) = table_at rs c

pub fitted : (names : List (List ℕ)) (p : Primitives) → p.names.now ≡ names → p.serious.items ≡ map is_serious_row p.program.now.classes
    → IsSpelling names p.spellings → IsInitialHeap names (tables p.program.now) p.layout.now → IsFitted names (tables p.program.now) p
fitted names p known serious spelling layout = record {
  known = known;
  spelling = spelling;
  program = refl;
  layout = layout;
  serious = λ c. rw serious (table_at p.program.now.classes c);
}

pub serious_there : (p : Primitives) (c : ℕ) (r : Bool) → slice_get p.serious.items c ≡ Some r → IsSerious p c r
serious_there p c r e = record { seen = λ names rows f. sym (f.serious c) ∙ get_or_from_slice_get p.serious.items c r false e }

pub serious_past : (p : Primitives) (c : ℕ) → length p.serious.items ≤ c → IsSerious p c false
serious_past p c h = record { seen = λ names rows f. sym (f.serious c) ∙ get_or_past p.serious.items c false h }

pub condition_seen : (p : Primitives) (s : Store) (w : Word) (c : ℕ) (r : Bool) → HasClassOf s w c → IsSerious p c r
    → (names : List (List ℕ)) (rows : ProgramRows) (b : Beside) → IsFitted names rows p → r ≡ is_condition rows (state_of names s b) (value_of_word names w)
condition_seen p s w c r x y names rows b f = sym (y.seen names rows f) ∙ ap (λ d. is_below rows d serious_condition_class) (sym (x.seen names b))

pub words_serious : (p : Primitives) (c n : ℕ) → IsSerious p c true → (names : List (List ℕ)) (rows : ProgramRows) → IsFitted names rows p → 2 + n + 1 ≡ instance_words rows c n
words_serious p c n x names rows f = rw (x.seen names rows f) refl

pub words_plain : (p : Primitives) (c n : ℕ) → IsSerious p c false → (names : List (List ℕ)) (rows : ProgramRows) → IsFitted names rows p → 2 + n ≡ instance_words rows c n
words_plain p c n x names rows f = rw (x.seen names rows f) (omega arith)
