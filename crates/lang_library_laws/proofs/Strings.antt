-- `string=`, by the loop along two strings.
use Rattle.std.proofs.Common.{◌≡◌, ◌≤◌, ◌<◌, ℕ, suc, ◌+◌, ◌==◌, Bool, true, false, ◌&&◌, List, [], ◌∷◌, ◌++◌, pos, refl, sym, ap, subst, ◌∙◌, Option, Some, None, length, slice_get, slice_index_or, append-nil, arith}
use Rattle.std.proofs.lemmas.Slice.Eq.{bytes_eq-Decides}
use Rattle.std.specs.Str.{bytes_eq}
use Rattle.base.specs.Data as datum
use Rattle.base.specs.declared.datum.Name.{Name}
use Rattle.lang_meaning.specs.declared.program.ProgramRows.{ProgramRows}
use Rattle.lang_meaning.specs.declared.primitive.Primitive.TheVariants.{StringLength}
use Rattle.lang_meaning.specs.Form.{sequence}
use Rattle.lang_meaning.specs.Values.{Value, integer, truth as truth_of}
use Rattle.lang_meaning.specs.Objects.{Object, string}
use Rattle.lang_meaning.specs.State.{State, DynamicContext, Limit}
use Rattle.lang_meaning.specs.Captured.{has_box}
use Rattle.lang_meaning.specs.Signals.{Signals, apply_procedure}
use Rattle.lang_library_laws.specs.Structures.{text, object_in, StandsFor}
use Rattle.lang_library_laws.specs.Applications.{GivesKeeping, Gives, IsExtended, HasLiteral, at_level}
use Rattle.lang_library_laws.specs.ListBodies.{one}
use Rattle.lang_library_laws.specs.EqualBodies.{same_character, compare, string_equal}
use Rattle.lang_library_laws.specs.Laws.{LawOfStringEqual}
use Rattle.lang_library_laws.proofs.Frames.{nothing_added, Setting, weaker}
use Rattle.lang_library_laws.proofs.Evaluates.{comes_local, comes_sequence, then_nothing, first_then}
use Rattle.lang_library_laws.proofs.OfPrimitives.{comes_same, comes_char_at, comes_string_length}
use Rattle.lang_library_laws.proofs.Applies.{setting, applies}
use Rattle.lang_library_laws.proofs.Structures.{stands_kept}
use Rattle.lang_library_laws.proofs.Along.{all_true, at_first, along_first, along_second, along_index, frame_at, Tests, compare_comes}

-- whether the bytes at each index of the first text are the same
abbrev same_each : List ℕ → List ℕ → List Bool
same_each [] b = []
same_each (x ∷ a) [] = false ∷ same_each a []
same_each (x ∷ a) (y ∷ b) = (x == y) ∷ same_each a b

same_length : (a b : List ℕ) → length (same_each a b) ≡ length a
same_length [] b = refl
same_length (x ∷ a) [] = ap suc (same_length a [])
same_length (x ∷ a) (y ∷ b) = ap suc (same_length a b)

same_all : (a b : List ℕ) → length a ≡ length b → all_true (same_each a b) ≡ bytes_eq a b
same_all [] [] h = refl
same_all [] (y ∷ b) h = absurd (omega (arith, h))
same_all (x ∷ a) [] h = absurd (omega (arith, h))
same_all (x ∷ a) (y ∷ b) h = ap (λ r. (x == y) && r) (same_all a b (omega (arith, h)))

other_lengths : (a b : List ℕ) → (length a ≡ length b → ⊥) → false ≡ bytes_eq a b
other_lengths a b h = by (bytes_eq a b) refl
  where
    by : (r : Bool) → bytes_eq a b ≡ r → false ≡ r
    by true is = absurd (h (ap length ((bytes_eq-Decides a b).0 is)))
    by false is = refl

-- what stands at an index
same_at : (done : List Bool) (b : Bool) (left : List Bool) (a c : List ℕ) → done ++ b ∷ left ≡ same_each a c → length a ≡ length c
    → (slice_index_or a (length done) 0 == slice_index_or c (length done) 0) ≡ b
same_at done b left [] c h e = absurd (by done h)
  where
    by : (done : List Bool) → done ++ b ∷ left ≡ [] → ⊥
    by [] h = cc h
    by (d ∷ done) h = cc h
same_at done b left (x ∷ a) [] h e = absurd (omega (arith, e))
same_at [] b left (x ∷ a) (y ∷ c) h e = cc
same_at (d ∷ done) b left (x ∷ a) (y ∷ c) h e =
    let others : done ++ b ∷ left ≡ same_each a c = cc in same_at done b left a c others (omega (arith, e))

index_within : (done : List Bool) (b : Bool) (left : List Bool) (a c : List ℕ) → done ++ b ∷ left ≡ same_each a c → length done < length a
index_within done b left [] c h = absurd (by done h)
  where
    by : (done : List Bool) → done ++ b ∷ left ≡ [] → ⊥
    by [] h = cc h
    by (d ∷ done) h = cc h
index_within [] b left (x ∷ a) c h = omega arith
index_within (d ∷ done) b left (x ∷ a) [] h =
    let others : done ++ b ∷ left ≡ same_each a [] = cc in let less : length done < length a = index_within done b left a [] others in omega (arith, less)
index_within (d ∷ done) b left (x ∷ a) (y ∷ c) h =
    let others : done ++ b ∷ left ≡ same_each a c = cc in let less : length done < length a = index_within done b left a c others in omega (arith, less)

-- what is bound and captured by nothing is captured by nothing
none_of : (b : Bool) → b && false ≡ false
none_of true = refl
none_of false = refl

no_boxes : (v none increment u : ℕ) → has_box u (sequence (one (compare v StringLength none increment (same_character v)))) ≡ false
no_boxes v none increment u = simp none_of

pub text_in : (store : List Object) (v : Value) (bytes : List ℕ) → StandsFor store v (text bytes) → object_in store v ≡ Some (string bytes)
text_in store v bytes h = ap (object_in store) h.1 ∙ h.2

-- what the function gives of the strings that were there
pub string_equal_gives : (names : List (List ℕ)) (program : ProgramRows) (limit : Limit) (z : State) (name : Option Name) (v number none increment : ℕ)
    → HasLiteral program none (datum.integer (pos 0)) → HasLiteral program increment (datum.integer (pos 1))
    → slice_get program.procedures number ≡ Some (string_equal name v none increment)
    → (kept : List Object) → IsExtended Object kept z.store → (first second : Value) (a b : List ℕ)
    → StandsFor kept first (text a) → StandsFor kept second (text b) → (k : ℕ) (wrong : Signals) (around : DynamicContext)
    → GivesKeeping kept limit k (suc (length a)) z (λ w store. w ≡ truth_of (bytes_eq a b))
    (apply_procedure (at_level names program limit k) wrong number None (first ∷ second ∷ []) around z)
string_equal_gives names program limit z name v number none increment is_none is_one there kept e first second a b l r =
    let bs : List Bool = same_each a b in
    let size : length bs ≡ length a = same_length a b in
    let small : length bs ≤ 536870911 = omega (arith, size, l.3) in
    applies names program limit z kept (length a) number name (v ∷ (v + 1) ∷ []) _ (first ∷ second ∷ []) (λ w store. w ≡ truth_of (bytes_eq a b)) e there
    (no_boxes v none increment) refl
    (λ levels.
    let s : Setting = setting names program limit z kept (suc levels) (suc (length a)) in
    let tests : length bs ≡ length b → Tests s v increment (same_character v) is_one first second bs small 0 =
    λ equal k done c left others store short all e Q q.
    let lengths : length a ≡ length b = sym size ∙ equal in
    let within : length done < length a = index_within done c left a b all in
    comes_same (comes_char_at (comes_local v 0 (along_first v) (comes_local (v + 2) 2 (along_index v) (
      a,
      length done,
      text_in store first a (stands_kept e first (text a) l),
      refl,
      within,
      comes_char_at (comes_local (v + 1) 1 (along_second v) (comes_local (v + 2) 2 (along_index v) (
        b,
        length done,
        text_in store second b (stands_kept e second (text b) r),
        refl,
        omega (arith, within, lengths),
        subst (λ x. Q (truth_of x) (frame_at s v increment (same_character v) is_one first second bs small 0 (length done) others) store) (sym (same_at done c left a b all lengths))
            (subst (λ os. Q (truth_of c) (frame_at s v increment (same_character v) is_one first second bs small 0 (length done) os) store) (append-nil others) (q [] store e)),
      ))),
    )))) in
    comes_sequence (first_then (weaker
    (compare_comes s v increment (same_character v) is_one first second bs small 0 (length b) tests StringLength none is_none (bytes_eq a b) (λ u. refl)
    (λ equal. same_all a b (sym size ∙ equal)) (λ differ. other_lengths a b (λ equal. differ (size ∙ equal)))
    levels z.store (λ few. omega (arith, few, size)) e
    (λ Q q. comes_string_length (comes_local v 0 (at_first v) (a, text_in z.store first a (stands_kept e first (text a) l), subst (λ n. Q (integer (pos n)) (first ∷ second ∷ []) z.store) size q)))
    (λ Q q. comes_string_length (comes_local (v + 1) 1 (along_second v) (b, text_in z.store second b (stands_kept e second (text b) r), q))))
    (λ w fr st is. then_nothing is))))

pub law_of_string_equal : LawOfStringEqual
law_of_string_equal names program name v none increment number is_none is_one there limit k wrong around z first second a b l r =
    let enough : suc (length a) ≡ length a + 1 = omega arith in
    subst (λ n. Gives limit k n z (λ w store. w ≡ truth_of (bytes_eq a b)) (apply_procedure (at_level names program limit k) wrong number None (first ∷ second ∷ []) around z)) enough
    (string_equal_gives names program limit z name v number none increment is_none is_one there z.store (nothing_added z.store) first second a b l r k wrong around)
