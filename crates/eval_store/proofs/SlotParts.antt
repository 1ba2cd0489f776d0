-- What a slot makes: the list of its initargs, and then its initform's function.
use Rattle.std.proofs.Common.{◌≡◌, ℕ, ◌+◌, List, [], ◌∷◌, ◌++◌, length, take, Some, refl, sym, ◌∙◌, ap, add-zero}
use Rattle.std.specs.Prelude.{slice_get}
use Rattle.std.proofs.lemmas.List.{map-append}
use Rattle.base.specs.declared.datum.Name.{Name}
use Rattle.base.specs.model.DataRest.{take_at}
use Rattle.lang_meaning.specs.declared.program.SlotRow.{SlotRow}
use Rattle.lang_meaning.specs.Values.{Value, nil, object}
use Rattle.lang_meaning.specs.Objects as objects
use Rattle.lang_meaning.specs.Literals.{lay_content}
use Rattle.lang_meaning.specs.InitialHeap.{initargs_list}
use Rattle.eval_store.specs.declared.store.Store.{Store}
use Rattle.eval_store.specs.declared.word.Word.{Word}
use Rattle.eval_store.specs.declared.word.Word.TheVariants.{Symbol}
use Rattle.eval_store.specs.Words.{value_of_word, values_of}
use Rattle.eval_store.specs.Recipes.{linked, IsMadeBy}
use Rattle.lang_meaning.specs.Recipes.{single, laid, initform_recipe}
use Rattle.eval_store.specs.Parts.{symbols_of, slot_recipe}
use Rattle.eval_store.specs.Tables.{slot_values}
use Rattle.eval_store.proofs.Made.{both_made, made_as}
use Rattle.eval_store.proofs.Data.{symbols_linked}

-- one more symbol
pub one_symbol : (list : List Name) (ws : List Word) (at : ℕ) (a : Name) → slice_get list at ≡ Some a
    → ((names : List (List ℕ)) → values_of names ws ≡ symbols_of names (take at list))
    → (names : List (List ℕ)) → values_of names (ws ++ Symbol a ∷ []) ≡ symbols_of names (take (at + 1) list)
one_symbol list ws at a h p names =
    map-append (value_of_word names) ws (Symbol a ∷ [])
    ∙ ap (λ vs. vs ++ value_of_word names (Symbol a) ∷ []) (p names)
    ∙ sym (map-append (λ (b : Name). value_of_word names (Symbol b)) (take at list) (a ∷ []))
    ∙ sym (ap (symbols_of names) (take_at list at a h))

-- the function of an initform
pub initform_added : {old new : Store} {w : Word} (procedure : ℕ) → IsMadeBy value_of_word (λ names. single (objects.function procedure)) old new w
    → IsMadeBy value_of_word (λ names. initform_recipe (Some procedure)) old new w
initform_added {old} {new} {w} procedure p =
    made_as
    (record { objects = λ names n same. refl; stands = λ names n same. same ∙ ap object (sym (add-zero n)) })
    p

-- a slot
pub slot_made : (s : SlotRow) (ws : List Word) {old mid new : Store} {w u : Word}
    → ((names : List (List ℕ)) → values_of names ws ≡ symbols_of names s.initargs)
    → IsMadeBy value_of_word (λ names. linked (values_of names ws) nil) old mid w
    → IsMadeBy value_of_word (λ names. initform_recipe s.initform) mid new u
    → IsMadeBy slot_values (λ names. slot_recipe names s) old new (record { initargs = w; initform = u })
slot_made s ws {old} {mid} {new} {w} {u} symbols p q =
    made_as
    (record {
      objects = λ names n same. ap (λ (l : List objects.Object × Value). l.0 ++ (initform_recipe s.initform (n + length l.0)).0) (list names n);
      stands = λ names n same. same ∙ ap (λ (l : List objects.Object × Value). (l.1, (initform_recipe s.initform (n + length l.0)).1)) (list names n);
    })
    (both_made p q)
  where
    list : (names : List (List ℕ)) (n : ℕ) → linked (values_of names ws) nil n ≡ laid (lay_content names (initargs_list s)) n
    list names n = ap (λ vs. linked vs nil n) (symbols names) ∙ sym (symbols_linked names s.initargs n)
