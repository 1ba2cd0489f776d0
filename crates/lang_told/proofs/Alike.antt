-- What is told of a condition depends on the shapes, the classes and the slots of values alone, and these are the same in alike stores.
use Rattle.std.proofs.Common.{◌≡◌, ℕ, List, ◌++◌, Option, Some, refl, sym, ap, ◌∙◌, subst, inl, inr}
use Rattle.std.specs.Prelude.{codes}
use Rattle.lang_meaning.specs.Form.{Form}
use Rattle.lang_meaning.specs.declared.program.ClassRow.{ClassRow}
use Rattle.lang_meaning.specs.Values.{Value}
use Rattle.lang_meaning.specs.Values as value
use Rattle.lang_meaning.specs.Objects.{Object, Environment, closure, function}
use Rattle.lang_meaning.specs.Classes.{class_of_object}
use Rattle.lang_taken.specs.Shapes.{Shape, shape_of, shape_of_object}
use Rattle.lang_alike.specs.Alike.{AreAlike, StoresAlike}
use Rattle.lang_told.specs.Written.{Writes, writes_atom, writes_vector, writes_list, WritesElements, no_element, an_element, WritesChain, at_nil, at_cons, at_dot, blank}
use Rattle.lang_told.specs.Written.{IsUnwritten, is_no_datum, is_too_large, in_vector, in_list, AreUnwritten, in_element, behind_element}
use Rattle.lang_told.specs.Written.{IsUnwrittenChain, in_car, in_cdr, behind_dot}
use Rattle.lang_told.specs.Told.{which_class, class_of_class, class_at, slots_at, slots_of_object, most_parts, name_at}
use Rattle.lang_told.specs.Told.{TellsValue, tells_class, tells_datum, tells_other, TellsSlot, tells_value, tells_unbound, TellsSlots, no_slot, a_slot, Tells}
use Rattle.lang_told.specs.Laws.{LawOfAlikeTellings}

-- a value is seen alike in two stores
record SeenAlike (one other : List Object) (v : Value) : Type 0 where
  pub shape : shape_of one v ≡ shape_of other v
  pub class_is : which_class one v ≡ which_class other v
  pub class : class_at one v ≡ class_at other v
  pub slots : slots_at one v ≡ slots_at other v

seen_back : (one other : List Object) (v : Value) → SeenAlike one other v → SeenAlike other one v
seen_back one other v seen = record { shape = sym seen.shape; class_is = sym seen.class_is; class = sym seen.class; slots = sym seen.slots }

-- what does not tell a closure from the function of a procedure is the same of an object and the one beside it
object_alike :
    {A : Type 0} (f : Option Object → A)
    → ((required : List ℕ) (rest : Option ℕ) (body : Form) (environment : Environment) (procedure : ℕ)
    → f (Some (closure required rest body environment)) ≡ f (Some (function procedure)))
    → (one other : Option Object) → AreAlike one other → f one ≡ f other
object_alike f functions one other (inl same) = ap f (sym same)
object_alike f functions one other (inr both) =
    ap f both.one_is ∙ functions both.required both.rest both.body both.environment both.procedure ∙ sym (ap f both.other_is)

value_alike : (one other : List Object) → StoresAlike one other → (v : Value) → SeenAlike one other v
value_alike one other alike (value.object i) = record {
  shape = object_alike shape_of_object (λ r o b e p. refl) _ _ (alike.objects i);
  class_is = object_alike class_of_class (λ r o b e p. refl) _ _ (alike.objects i);
  class = object_alike class_of_object (λ r o b e p. refl) _ _ (alike.objects i);
  slots = object_alike slots_of_object (λ r o b e p. refl) _ _ (alike.objects i);
}
value_alike one other alike (value.integer n) = record { shape = refl; class_is = refl; class = refl; slots = refl }
value_alike one other alike (value.character c) = record { shape = refl; class_is = refl; class = refl; slots = refl }
value_alike one other alike (value.symbol s) = record { shape = refl; class_is = refl; class = refl; slots = refl }
value_alike one other alike value.nil = record { shape = refl; class_is = refl; class = refl; slots = refl }

module _ (one other : List Object) (seen : (v : Value) → SeenAlike one other v) where
  abbrev Also : (left : ℕ) → Shape → (text : List ℕ) → (rest : ℕ) → Type 0
  Also left s text rest = Writes other left s text rest

  of_value : (left : ℕ) (v : Value) (text : List ℕ) (rest : ℕ) → Also left (shape_of one v) text rest → Also left (shape_of other v) text rest
  of_value left v text rest = subst (λ s. Also left s text rest) (seen v).shape

  mutual
    writes_also : (left : ℕ) (s : Shape) (text : List ℕ) (rest : ℕ) → Writes one left s text rest → Also left s text rest
    writes_also left s text rest (writes_atom _ _ is) = writes_atom rest s is
    writes_also left s text rest (writes_vector below _ vs inside parts) =
        writes_vector below rest vs inside (elements_also _ below vs inside rest parts)
    writes_also left s text rest (writes_list below _ car cdr inside parts) =
        writes_list below rest car cdr inside (chain_also _ below _ inside rest parts)

    elements_also :
        (gap : List ℕ) (left : ℕ) (vs : List Value) (text : List ℕ) (rest : ℕ) → WritesElements one gap left vs text rest
        → WritesElements other gap left vs text rest
    elements_also gap left vs all rest (no_element _ _) = no_element gap left
    elements_also gap left vs all rest (an_element _ _ middle _ v more text texts first further) =
        an_element gap left middle rest v more text texts
        (of_value left v text middle (writes_also left _ text middle first)) (elements_also blank middle more texts rest further)

    chain_also :
        (gap : List ℕ) (left : ℕ) (s : Shape) (text : List ℕ) (rest : ℕ) → WritesChain one gap left s text rest
        → WritesChain other gap left s text rest
    chain_also gap left s all rest (at_nil _ _) = at_nil gap left
    chain_also gap left s all rest (at_cons _ _ middle _ car cdr text texts first further) =
        at_cons gap left middle rest car cdr text texts (of_value left car text middle (writes_also left _ text middle first))
        (subst (λ s. WritesChain other blank middle s texts rest) (seen cdr).shape (chain_also blank middle _ texts rest further))
    chain_also gap left s all rest (at_dot _ _ _ _ text end written) = at_dot gap left rest s text end (writes_also left s text rest written)

  value_also : (left : ℕ) (v : Value) (text : List ℕ) (rest : ℕ) → Writes one left (shape_of one v) text rest → Also left (shape_of other v) text rest
  value_also left v text rest written = of_value left v text rest (writes_also left _ text rest written)

  mutual
    unwritten_also : (left : ℕ) (s : Shape) → IsUnwritten one left s → IsUnwritten other left s
    unwritten_also left s (is_no_datum _) = is_no_datum left
    unwritten_also left s (is_too_large _ _ less) = is_too_large left s less
    unwritten_also left s (in_vector below vs parts) = in_vector below vs (elements_unwritten_also below vs parts)
    unwritten_also left s (in_list below car cdr parts) = in_list below car cdr (chain_unwritten_also below _ parts)

    elements_unwritten_also : (left : ℕ) (vs : List Value) → AreUnwritten one left vs → AreUnwritten other left vs
    elements_unwritten_also left vs (in_element _ v more first) =
        in_element left v more (subst (λ s. IsUnwritten other left s) (seen v).shape (unwritten_also left _ first))
    elements_unwritten_also left vs (behind_element _ middle v more text first further) =
        behind_element left middle v more text (value_also left v text middle first) (elements_unwritten_also middle more further)

    chain_unwritten_also : (left : ℕ) (s : Shape) → IsUnwrittenChain one left s → IsUnwrittenChain other left s
    chain_unwritten_also left s (in_car _ car cdr first) =
        in_car left car cdr (subst (λ s. IsUnwritten other left s) (seen car).shape (unwritten_also left _ first))
    chain_unwritten_also left s (in_cdr _ middle car cdr text first further) =
        in_cdr left middle car cdr text (value_also left car text middle first)
        (subst (λ s. IsUnwrittenChain other middle s) (seen cdr).shape (chain_unwritten_also middle _ further))
    chain_unwritten_also left s (behind_dot _ _ end first) = behind_dot left s end (unwritten_also left s first)

  module _ (names : List (List ℕ)) (classes : List ClassRow) where
    value_told_also : (v : Value) (text : List ℕ) → TellsValue names classes one v text → TellsValue names classes other v text
    value_told_also v text (tells_class _ class is) = tells_class v class (sym (seen v).class_is ∙ is)
    value_told_also v text (tells_datum _ _ rest written) = tells_datum v text rest (value_also most_parts v text rest written)
    value_told_also v text (tells_other _ none failed) =
        let by_class = λ (class : ℕ). codes "#" ++ name_at names classes other class in
        subst (λ t. TellsValue names classes other v t) (sym (ap by_class (seen v).class))
        (tells_other v (sym (seen v).class_is ∙ none)
        (subst (λ s. IsUnwritten other most_parts s) (seen v).shape (unwritten_also most_parts _ failed)))

    slot_told_also : (slot : Option Value) (text : List ℕ) → TellsSlot names classes one slot text → TellsSlot names classes other slot text
    slot_told_also slot text (tells_value v _ told) = tells_value v text (value_told_also v text told)
    slot_told_also slot text tells_unbound = tells_unbound

    slots_told_also :
        (slots : List (Option Value)) (text : List ℕ) → TellsSlots names classes one slots text → TellsSlots names classes other slots text
    slots_told_also slots all no_slot = no_slot
    slots_told_also slots all (a_slot slot more text texts told further) =
        a_slot slot more text texts (slot_told_also slot text told) (slots_told_also more texts further)

    told_also : (condition : Value) (told : List ℕ) → Tells names classes one condition told → Tells names classes other condition told
    told_also condition told it = record {
      text = it.text;
      slots = subst (λ slots. TellsSlots names classes other slots it.text) (seen condition).slots (slots_told_also _ it.text it.slots);
      told_is = it.told_is;
    }

-- **the law of alike tellings**
pub law_of_alike_tellings : LawOfAlikeTellings
law_of_alike_tellings names classes one other condition told alike =
    let seen = value_alike one other alike in (
      told_also one other seen names classes condition told,
      told_also other one (λ v. seen_back one other v (seen v)) names classes condition told,
    )
