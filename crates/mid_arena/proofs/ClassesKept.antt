-- The class objects of a program stay where they are as long as no class object is made and none is changed.
use Rattle.std.proofs.Common.{◌≡◌, ℕ, ◌<◌, List, [], ◌∷◌, length, Option, Some, refl, sym, ap, subst, ◌∙◌}
use Rattle.std.specs.Prelude.{slice_get}
use Rattle.base.specs.Names.{slice_get-front}
use Rattle.lang_meaning.specs.declared.program.ProgramRows.{ProgramRows}
use Rattle.lang_meaning.specs.Values.{Value, object}
use Rattle.lang_meaning.specs.Objects.{Object, instance, class_object}
use Rattle.lang_meaning.specs.State as meaning
use Rattle.lang_meaning.specs.Classes.{fetch}
use Rattle.lang_meaning.specs.InitialHeap.{class_value}
use Rattle.mid_arena.proofs.Owners.{FrontOrEnd, at_front, at_end, front_or_end, SetOrNot, at_place, elsewhere, set_or_not}
use Rattle.mid_arena.specs.ClassesThere.{ClassesThere}
use Rattle.mid_arena.proofs.Lists.{set_elsewhere}

-- an object that a run makes: no class, and if it is an instance, then of a class of the program
abbrev pub IsNewObject : ProgramRows → Object → Type 0
IsNewObject program (instance c slots mark) = c < length program.classes
IsNewObject program (class_object c) = ⊥
IsNewObject program other = Unit {0}

pub no_class : (program : ProgramRows) (o : Object) (c : ℕ) → IsNewObject program o → o ≡ class_object c → ⊥
no_class program o c made e = subst (λ x. IsNewObject program x) e made

pub of_program :
    (program : ProgramRows) (o : Object) (c : ℕ) (slots : List (Option Value)) (mark : Value) → IsNewObject program o → o ≡ instance c slots mark
    → c < length program.classes
of_program program o c slots mark made e = subst (λ x. IsNewObject program x) e made

module _ (names : List (List ℕ)) (program : ProgramRows) (z : meaning.State) (there : ClassesThere names program z) where
  -- in a state with the same objects
  pub classes_same : (z' : meaning.State) → z'.store ≡ z.store → ClassesThere names program z'
  classes_same z' same = record {
    objects = λ c h. fetched (class_value names program c) ∙ there.objects c h;
    values = λ v c e. there.values v c (sym (fetched v) ∙ e);
    instances = λ i c slots mark e. there.instances i c slots mark (ap (λ os. slice_get os i) (sym same) ∙ e);
  }
    where
      fetched : (v : Value) → fetch z' v ≡ fetch z v
      fetched (object i) = ap (λ os. slice_get os i) same
      fetched w = refl

  -- with one object more
  pub classes_stored : (o : Object) → IsNewObject program o → ClassesThere names program (meaning.stored o z)
  classes_stored o made = record {
    objects = λ c h. fetched (class_value names program c) (class_object c) (there.objects c h);
    values = values;
    instances = λ i c slots mark e. instances i c slots mark (front_or_end z.store o i (instance c slots mark) e);
  }
    where
      fetched : (v : Value) (one : Object) → fetch z v ≡ Some one → fetch (meaning.stored o z) v ≡ Some one
      fetched (object i) one e = slice_get-front z.store (o ∷ []) i one e
      fetched v one e = absurd (cc e)

      of_class : (i c : ℕ) → FrontOrEnd z.store o i (class_object c) → class_value names program c ≡ object i
      of_class i c (at_front e) = there.values (object i) c e
      of_class i c (at_end last same) = absurd (no_class program _ c made (sym same))

      values : (v : Value) (c : ℕ) → fetch (meaning.stored o z) v ≡ Some (class_object c) → class_value names program c ≡ v
      values (object i) c e = of_class i c (front_or_end z.store o i (class_object c) e)
      values v c e = absurd (cc e)

      instances :
          (i c : ℕ) (slots : List (Option Value)) (mark : Value) → FrontOrEnd z.store o i (instance c slots mark) → c < length program.classes
      instances i c slots mark (at_front e) = there.instances i c slots mark e
      instances i c slots mark (at_end last same) = of_program program _ c slots mark made (sym same)

  -- with another object in the place of one
  pub classes_changed :
      (i : ℕ) (old now : Object) → slice_get z.store i ≡ Some old → IsNewObject program old → IsNewObject program now
      → ClassesThere names program (meaning.changed i now z)
  classes_changed i old now stored was made = record {
    objects = λ c h. fetched (class_value names program c) c (there.objects c h);
    values = values;
    instances = λ j c slots mark e. instances j c slots mark (set_or_not z.store i now j (instance c slots mark) e);
  }
    where
      fetched : (v : Value) (c : ℕ) → fetch z v ≡ Some (class_object c) → fetch (meaning.changed i now z) v ≡ Some (class_object c)
      fetched (object j) c e =
          set_elsewhere z.store i j now (λ same. no_class program old c was (cc (stored, ap (λ k. slice_get z.store k) same, e))) ∙ e
      fetched v c e = absurd (cc e)

      of_class : (j c : ℕ) → SetOrNot z.store i now j (class_object c) → class_value names program c ≡ object j
      of_class j c (at_place here same) = absurd (no_class program _ c made (sym same))
      of_class j c (elsewhere different e) = there.values (object j) c e

      values : (v : Value) (c : ℕ) → fetch (meaning.changed i now z) v ≡ Some (class_object c) → class_value names program c ≡ v
      values (object j) c e = of_class j c (set_or_not z.store i now j (class_object c) e)
      values v c e = absurd (cc e)

      instances :
          (j c : ℕ) (slots : List (Option Value)) (mark : Value) → SetOrNot z.store i now j (instance c slots mark) → c < length program.classes
      instances j c slots mark (at_place here same) = of_program program _ c slots mark made (sym same)
      instances j c slots mark (elsewhere different e) = there.instances j c slots mark e
