-- A value is written in at most one way, or is not written, and not both; so two texts that are told of a condition are one.
use Rattle.std.proofs.Common.{◌≡◌, ℕ, suc, ◌+◌, ◌<◌, true, List, [], ◌++◌, Option, Some, None, refl, sym, ap, ◌∙◌, subst, arith}
use Rattle.std.specs.Prelude.{slice_get, codes}
use Rattle.lang_meaning.specs.declared.program.ClassRow.{ClassRow}
use Rattle.lang_meaning.specs.Values.{Value}
use Rattle.lang_meaning.specs.Values as value
use Rattle.lang_meaning.specs.Objects.{Object}
use Rattle.lang_meaning.specs.Objects as object
use Rattle.lang_taken.specs.Shapes.{Shape, shape_of, shape_of_object, vector, cons, no_datum, own_size}
use Rattle.lang_told.specs.Spelled.{atom_text, is_atom}
use Rattle.lang_told.specs.Written.{Writes, writes_atom, writes_vector, writes_list, WritesElements, no_element, an_element, WritesChain, at_nil, at_cons, at_dot, blank}
use Rattle.lang_told.specs.Written.{IsUnwritten, is_no_datum, is_too_large, in_vector, in_list, AreUnwritten, in_element, behind_element}
use Rattle.lang_told.specs.Written.{IsUnwrittenChain, in_car, in_cdr, behind_dot}
use Rattle.lang_told.specs.Told.{which_class, class_of_class, most_parts, behind_colon, name_at}
use Rattle.lang_told.specs.Told.{TellsValue, tells_class, tells_datum, tells_other, TellsSlot, tells_value, tells_unbound, TellsSlots, no_slot, a_slot}
use Rattle.lang_told.specs.Laws.{LawOfOneTelling}

module _ (objects : List Object) where
  -- ---- how a shape is written, by what it is

  record AtomWritten (left : ℕ) (s : Shape) (text : List ℕ) (rest : ℕ) : Type 0 where
    pub left_is : left ≡ own_size s + rest
    pub text_is : text ≡ atom_text s

  record VectorWritten (left : ℕ) (elements : List Value) (text : List ℕ) (rest : ℕ) : Type 0 where
    pub below : ℕ
    pub inside : List ℕ
    pub left_is : left ≡ suc below
    pub text_is : text ≡ codes "#(" ++ (inside ++ codes ")")
    pub parts : WritesElements objects [] below elements inside rest

  record ListWritten (left : ℕ) (car cdr : Value) (text : List ℕ) (rest : ℕ) : Type 0 where
    pub below : ℕ
    pub inside : List ℕ
    pub left_is : left ≡ suc below
    pub text_is : text ≡ codes "(" ++ (inside ++ codes ")")
    pub parts : WritesChain objects [] below (cons car cdr) inside rest

  atom_written : (left : ℕ) (s : Shape) (text : List ℕ) (rest : ℕ) → is_atom s ≡ true → Writes objects left s text rest → AtomWritten left s text rest
  atom_written left s text rest is (writes_atom _ _ _) = record { left_is = refl; text_is = refl }
  atom_written left s text rest is (writes_vector _ _ elements inside parts) = absurd (cc is)
  atom_written left s text rest is (writes_list _ _ car cdr inside parts) = absurd (cc is)

  vector_written :
      (left : ℕ) (elements : List Value) (text : List ℕ) (rest : ℕ) → Writes objects left (vector elements) text rest
      → VectorWritten left elements text rest
  vector_written left elements text rest (writes_atom _ _ is) = absurd (cc is)
  vector_written left elements text rest (writes_vector below _ _ inside parts) =
      record { below = below; inside = inside; left_is = refl; text_is = refl; parts = parts }

  list_written :
      (left : ℕ) (car cdr : Value) (text : List ℕ) (rest : ℕ) → Writes objects left (cons car cdr) text rest → ListWritten left car cdr text rest
  list_written left car cdr text rest (writes_atom _ _ is) = absurd (cc is)
  list_written left car cdr text rest (writes_list below _ _ _ inside parts) =
      record { below = below; inside = inside; left_is = refl; text_is = refl; parts = parts }

  never_written : (left : ℕ) (text : List ℕ) (rest : ℕ) → Writes objects left no_datum text rest → ⊥
  never_written left text rest (writes_atom _ _ is) = cc is

  atom_unwritten : (left : ℕ) (s : Shape) → is_atom s ≡ true → IsUnwritten objects left s → left < own_size s
  atom_unwritten left s is (is_no_datum _) = absurd (cc is)
  atom_unwritten left s is (is_too_large _ _ less) = less
  atom_unwritten left s is (in_vector _ elements failed) = absurd (cc is)
  atom_unwritten left s is (in_list _ car cdr failed) = absurd (cc is)

  -- ---- two writings are one

  mutual
    one_writing :
        (left : ℕ) (s : Shape) (one other : List ℕ) (rest last : ℕ) → Writes objects left s one rest → Writes objects left s other last
        → (one ≡ other) × (rest ≡ last)
    one_writing left s one other rest last (writes_atom _ _ is) b =
        let it = atom_written _ s other last is b in (sym it.text_is, omega (arith, it.left_is))
    one_writing left s one other rest last (writes_vector below _ elements inside parts) b =
        let it = vector_written _ elements other last b in
        let P : ℕ → Type 0 = λ m. WritesElements objects [] m elements it.inside last in
        let same = one_elements [] below elements inside it.inside rest last parts (subst P (omega (arith, it.left_is)) it.parts) in
        (cc (same.0, it.text_is), same.1)
    one_writing left s one other rest last (writes_list below _ car cdr inside parts) b =
        let it = list_written _ car cdr other last b in
        let P : ℕ → Type 0 = λ m. WritesChain objects [] m (cons car cdr) it.inside last in
        let same = one_chain [] below _ inside it.inside rest last parts (subst P (omega (arith, it.left_is)) it.parts) in
        (cc (same.0, it.text_is), same.1)

    one_elements :
        (gap : List ℕ) (left : ℕ) (vs : List Value) (one other : List ℕ) (rest last : ℕ) → WritesElements objects gap left vs one rest
        → WritesElements objects gap left vs other last → (one ≡ other) × (rest ≡ last)
    one_elements gap left vs one other rest last (no_element _ _) (no_element _ _) = (refl, refl)
    one_elements gap left vs one other rest last (an_element _ _ middle _ v more text texts first further) (an_element _ _ middle2 _ _ _ text2 texts2 first2 further2) =
        let here = one_writing left (shape_of objects v) text text2 middle middle2 first first2 in
        let P : ℕ → Type 0 = λ m. WritesElements objects blank m more texts2 last in
        let there = one_elements blank middle more texts texts2 rest last further (subst P (sym here.1) further2) in
        (cc (here.0, there.0), there.1)

    one_chain :
        (gap : List ℕ) (left : ℕ) (s : Shape) (one other : List ℕ) (rest last : ℕ) → WritesChain objects gap left s one rest
        → WritesChain objects gap left s other last → (one ≡ other) × (rest ≡ last)
    one_chain gap left s one other rest last (at_nil _ _) (at_nil _ _) = (refl, refl)
    one_chain gap left s one other rest last (at_nil _ _) (at_dot _ _ _ _ _ no_list _) = absurd (cc no_list)
    one_chain gap left s one other rest last (at_cons _ _ middle _ car cdr text texts first further) (at_cons _ _ middle2 _ _ _ text2 texts2 first2 further2) =
        let here = one_writing left (shape_of objects car) text text2 middle middle2 first first2 in
        let P : ℕ → Type 0 = λ m. WritesChain objects blank m (shape_of objects cdr) texts2 last in
        let there = one_chain blank middle (shape_of objects cdr) texts texts2 rest last further (subst P (sym here.1) further2) in
        (cc (here.0, there.0), there.1)
    one_chain gap left s one other rest last (at_cons _ _ middle _ car cdr text texts first further) (at_dot _ _ _ _ _ no_list _) = absurd (cc no_list)
    one_chain gap left s one other rest last (at_dot _ _ _ _ text no_list written) (at_nil _ _) = absurd (cc no_list)
    one_chain gap left s one other rest last (at_dot _ _ _ _ text no_list written) (at_cons _ _ middle _ car cdr _ texts first further) = absurd (cc no_list)
    one_chain gap left s one other rest last (at_dot _ _ _ _ text no_list written) (at_dot _ _ _ _ text2 no_list2 written2) =
        let same = one_writing left s text text2 rest last written written2 in (cc (same.0), same.1)

  -- ---- what is written is not unwritten

  mutual
    not_both : (left : ℕ) (s : Shape) (text : List ℕ) (rest : ℕ) → Writes objects left s text rest → IsUnwritten objects left s → ⊥
    not_both left s text rest (writes_atom _ _ is) failed = omega (arith, atom_unwritten _ s is failed)
    not_both left s text rest (writes_vector below _ elements inside parts) (is_too_large _ _ less) = omega (arith, less)
    not_both left s text rest (writes_vector below _ elements inside parts) (in_vector _ _ failed) =
        not_both_elements [] below elements inside rest parts failed
    not_both left s text rest (writes_list below _ car cdr inside parts) (is_too_large _ _ less) = omega (arith, less)
    not_both left s text rest (writes_list below _ car cdr inside parts) (in_list _ _ _ failed) = not_both_chain [] below _ inside rest parts failed

    not_both_elements :
        (gap : List ℕ) (left : ℕ) (vs : List Value) (text : List ℕ) (rest : ℕ) → WritesElements objects gap left vs text rest
        → AreUnwritten objects left vs → ⊥
    not_both_elements gap left vs all rest (no_element _ _) failed = elim failed [ ]
    not_both_elements gap left vs all rest (an_element _ _ middle _ v more text texts first further) (in_element _ _ _ failed) =
        not_both left (shape_of objects v) text middle first failed
    not_both_elements gap left vs all rest (an_element _ _ middle _ v more text texts first further) (behind_element _ middle2 _ _ text2 first2 failed) =
        let here = one_writing left (shape_of objects v) text text2 middle middle2 first first2 in
        not_both_elements blank middle more texts rest further (subst (λ m. AreUnwritten objects m more) (sym here.1) failed)

    not_both_chain :
        (gap : List ℕ) (left : ℕ) (s : Shape) (text : List ℕ) (rest : ℕ) → WritesChain objects gap left s text rest
        → IsUnwrittenChain objects left s → ⊥
    not_both_chain gap left s all rest (at_nil _ _) (behind_dot _ _ no_list _) = cc no_list
    not_both_chain gap left s all rest (at_cons _ _ middle _ car cdr text texts first further) (in_car _ _ _ failed) =
        not_both left (shape_of objects car) text middle first failed
    not_both_chain gap left s all rest (at_cons _ _ middle _ car cdr text texts first further) (in_cdr _ middle2 _ _ text2 first2 failed) =
        let here = one_writing left (shape_of objects car) text text2 middle middle2 first first2 in
        let P : ℕ → Type 0 = λ m. IsUnwrittenChain objects m (shape_of objects cdr) in
        not_both_chain blank middle (shape_of objects cdr) texts rest further (subst P (sym here.1) failed)
    not_both_chain gap left s all rest (at_cons _ _ middle _ car cdr text texts first further) (behind_dot _ _ no_list _) = cc no_list
    not_both_chain gap left s all rest (at_dot _ _ _ _ text no_list written) (in_car _ _ _ failed) = cc no_list
    not_both_chain gap left s all rest (at_dot _ _ _ _ text no_list written) (in_cdr _ _ _ _ _ _ failed) = cc no_list
    not_both_chain gap left s all rest (at_dot _ _ _ _ text no_list written) (behind_dot _ _ _ failed) = not_both left s text rest written failed

  -- ---- a class is no datum

  class_object_shape : (at : Option Object) (class : ℕ) → class_of_class at ≡ Some class → shape_of_object at ≡ no_datum
  class_object_shape None class is = refl
  class_object_shape (Some (object.cons car cdr)) class is = absurd (cc is)
  class_object_shape (Some (object.string bytes)) class is = absurd (cc is)
  class_object_shape (Some (object.vector elements)) class is = absurd (cc is)
  class_object_shape (Some (object.instance of slots mark)) class is = refl
  class_object_shape (Some (object.function procedure)) class is = refl
  class_object_shape (Some (object.closure required rest body environment)) class is = refl
  class_object_shape (Some (object.generic_function generic)) class is = refl
  class_object_shape (Some (object.class_object it)) class is = refl
  class_object_shape (Some object.input_stream) class is = refl
  class_object_shape (Some object.output_stream) class is = refl
  class_object_shape (Some (object.fresh_symbol serial)) class is = absurd (cc is)

  class_shape : (v : Value) (class : ℕ) → which_class objects v ≡ Some class → shape_of objects v ≡ no_datum
  class_shape (value.integer n) class is = absurd (cc is)
  class_shape (value.character c) class is = absurd (cc is)
  class_shape (value.symbol s) class is = absurd (cc is)
  class_shape value.nil class is = absurd (cc is)
  class_shape (value.object i) class is = class_object_shape (slice_get objects i) class is

  class_unwritten :
      (v : Value) (class left : ℕ) (text : List ℕ) (rest : ℕ) → which_class objects v ≡ Some class → Writes objects left (shape_of objects v) text rest → ⊥
  class_unwritten v class left text rest is written =
      never_written left text rest (subst (λ s. Writes objects left s text rest) (class_shape v class is) written)

  -- ---- what is told of values and slots

  module _ (names : List (List ℕ)) (classes : List ClassRow) where
    one_value : (v : Value) (one other : List ℕ) → TellsValue names classes objects v one → TellsValue names classes objects v other → one ≡ other
    one_value v one other (tells_class _ class is) (tells_class _ class2 is2) = let same : class ≡ class2 = cc in ap (name_at names classes objects) same
    one_value v one other (tells_class _ class is) (tells_datum _ _ rest written) = absurd (class_unwritten v class most_parts other rest is written)
    one_value v one other (tells_class _ class is) (tells_other _ none failed) = absurd (cc)
    one_value v one other (tells_datum _ _ rest written) (tells_class _ class is) = absurd (class_unwritten v class most_parts one rest is written)
    one_value v one other (tells_datum _ _ rest written) (tells_datum _ _ rest2 written2) =
        (one_writing most_parts (shape_of objects v) one other rest rest2 written written2).0
    one_value v one other (tells_datum _ _ rest written) (tells_other _ none failed) =
        absurd (not_both most_parts (shape_of objects v) one rest written failed)
    one_value v one other (tells_other _ none failed) (tells_class _ class is) = absurd (cc)
    one_value v one other (tells_other _ none failed) (tells_datum _ _ rest written) =
        absurd (not_both most_parts (shape_of objects v) other rest written failed)
    one_value v one other (tells_other _ none failed) (tells_other _ none2 failed2) = refl

    one_slot :
        (slot : Option Value) (one other : List ℕ) → TellsSlot names classes objects slot one → TellsSlot names classes objects slot other → one ≡ other
    one_slot slot one other (tells_value v _ a) (tells_value _ _ b) = one_value v one other a b
    one_slot slot one other tells_unbound tells_unbound = refl

    one_slots :
        (slots : List (Option Value)) (one other : List ℕ) → TellsSlots names classes objects slots one
        → TellsSlots names classes objects slots other → one ≡ other
    one_slots slots one other no_slot no_slot = refl
    one_slots slots one other (a_slot slot more text texts a further) (a_slot _ _ text2 texts2 b further2) =
        let here = one_slot slot text text2 a b in let there = one_slots more texts texts2 further further2 in cc

-- **the law of one telling**
pub law_of_one_telling : LawOfOneTelling
law_of_one_telling names classes objects condition one other a b =
    a.told_is ∙ ap (behind_colon names classes objects) (one_slots objects names classes _ a.text b.text a.slots b.slots) ∙ sym b.told_is
