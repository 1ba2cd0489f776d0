-- The rows of calls are apt: each call has as many parts as it takes.
use Rattle.std.proofs.Common.{◌≡◌, ◌+◌, ◌≤◌, ℕ, nat_le, nat_eq, Bool, true, false, List, [], ◌∷◌, length, Option, Some, None, if◌then◌else◌, refl, ap, ◌∙◌, arith}
use Rattle.std.specs.Prelude.{codes}
use Rattle.std.specs.Str.{bytes_eq}
use Rattle.std.proofs.lemmas.Bool.{leb-true, eqb-true}
use Rattle.std.proofs.lemmas.Bool.{and_parts}
use Rattle.base.specs.declared.place.Place.{Place}
use Rattle.base.specs.declared.datum.Name.{Name}
use Rattle.base.specs.Data.{Item}
use Rattle.base.specs.AllOf.{AllOf}
use Rattle.base.specs.WellFormedData.{WellFormed}
use Rattle.lang_meaning.specs.declared.primitive.Primitive.{Primitive}
use Rattle.lang_meaning.specs.Arity.{arity}
use Rattle.lang_meaning.specs.Form.{Form}
use Rattle.lang_meaning.specs.Standing.{is_variable}
use Rattle.lang_meaning.specs.Counts.{all_nodes}
use Rattle.front_profile.specs.declared.tables.Tables.{Tables}
use Rattle.front_profile.specs.declared.elaboration.ElaboratedPart.{ElaboratedPart}
use Rattle.lang_meaning.specs.declared.kinds.OverTwo.{OverTwo}
use Rattle.lang_meaning.specs.declared.kinds.OverTwo.TheVariants.{Signal, Continue}
use Rattle.front_profile.specs.declared.elaboration.Elaboration.{Elaboration}
use Rattle.front_profile.specs.declared.elaboration.Elaboration.TheVariants.{OfTwo, CallOf, CallOfValue, CallOfLocal, CallOfPrimitive}
use Rattle.front_profile.specs.Primitives.{primitive_named, taking, primitive_called}
use Rattle.front_profile.specs.Nodes.{StaticContext}
use Rattle.front_profile.specs.Elaborations.{forms_found, make_two, elaborate, finish}
use Rattle.front_profile.specs.RowWords.{deeper, each_form}
use Rattle.front_profile.specs.CallRows.{all_parts, local_call, named_making, is_value_call, is_pair_call, call_making, named_call}
use Rattle.front_profile.specs.Definitions.{Definitions, defined}
use Rattle.front_profile.specs.Places.{scope_of}
use Rattle.front_profile.specs.Right.{RightIn, RightAt}
use Rattle.front_profile.proofs.Matches.{Spots, AllMatch, forms_match, forms_as_many}
use Rattle.front_profile.proofs.Nodes.{nodes_in, found_nodes, call_nodes, call_value_nodes, prim_nodes, two_nodes, local_call_nodes}
use Rattle.front_profile.proofs.Numbers.{OwnNumbers}
use Rattle.front_profile.proofs.FoundNodes.{forms_plain, forms_counted, enough_nodes}
use Rattle.front_profile.proofs.MadeForms.{made_two, made_call, made_call_value, made_prim, made_local_call}
use Rattle.front_profile.proofs.Wanted.{spots, AptAt, Stage}
use Rattle.front_profile.proofs.Apt.{apt_within, apt_made, plain_parts, forms_apt}

-- a call of so many parts, as it is made
pub data IsCall : Elaboration → ℕ → Type 0 where
  of_name : (n : Name) (count : ℕ) → IsCall (CallOf n) count
  of_value : (count : ℕ) → 1 ≤ count → IsCall CallOfValue count
  of_two : (k : OverTwo) (count : ℕ) → count ≡ 2 → IsCall (OfTwo k) count
  of_primitive : (p : Primitive) (count : ℕ) → count ≡ arity p → IsCall (CallOfPrimitive p) count

made_of_two : (g : Definitions) (a : StaticContext) (k : OverTwo) (fs : List Form) → a.spot.depth + 1 ≤ 1000 → length fs ≡ 2 → AllOf (RightIn g (scope_of a) (a.spot.depth + 1)) fs
    → RightAt g a (make_two k fs)
made_of_two g a k [] l e r = absurd (omega (arith, e))
made_of_two g a k (f ∷ []) l e r = absurd (omega (arith, e))
made_of_two g a k (f ∷ h ∷ fs) l e r = made_two g (scope_of a) a.spot.depth k f h l r.0 r.1.0

found_call : (g : Definitions) (a i : StaticContext) (m : Elaboration) (ds : List Item) (rs : List ElaboratedPart) → IsCall m (length ds) → a.spot.depth + 1 ≤ 1000
    → AllMatch (spots g (deeper 1 a) i rs) (each_form ds) rs → RightAt g a (elaborate m rs)
found_call g a i m ds rs c l x =
    let right : AllOf (RightIn g (scope_of a) (a.spot.depth + 1)) (forms_found rs) = forms_match (spots g (deeper 1 a) i rs) ds rs x in
    let many : length (forms_found rs) ≡ length ds = forms_as_many (spots g (deeper 1 a) i rs) ds rs x in
    by_call m (length ds) c right many
  where
    by_call : (m : Elaboration) (count : ℕ) → IsCall m count → AllOf (RightIn g (scope_of a) (a.spot.depth + 1)) (forms_found rs) → length (forms_found rs) ≡ count
        → RightAt g a (elaborate m rs)
    by_call m count (of_name n k) r e = made_call g (scope_of a) a.spot.depth n.0 (forms_found rs) l r
    by_call m count (of_value k h) r e = made_call_value g (scope_of a) a.spot.depth (forms_found rs) l (omega (arith, e, h)) r
    by_call m count (of_two t k h) r e = made_of_two g a t (forms_found rs) l (e ∙ h) r
    by_call m count (of_primitive p k h) r e = made_prim g (scope_of a) a.spot.depth p (forms_found rs) l (e ∙ h) r

call_ends : (m : Elaboration) (count : ℕ) → IsCall m count → (u : Tables) (rs : List ElaboratedPart) → defined (finish m rs u) ≡ defined u
call_ends m count (of_name n k) u rs = refl
call_ends m count (of_value k h) u rs = refl
call_ends m count (of_two t k h) u rs = refl
call_ends m count (of_primitive p k h) u rs = refl

two_counted : (k : OverTwo) (fs : List Form) → length fs ≡ 2 → nodes_in fs + 1 ≤ all_nodes (make_two k fs)
two_counted k [] e = absurd (omega (arith, e))
two_counted k (f ∷ []) e = absurd (omega (arith, e))
two_counted k (f ∷ h ∷ []) e = two_more (all_nodes f) (all_nodes h) _ (two_nodes k f h)
  where
    two_more : (n m k : ℕ) → n + m + 1 ≤ k → n + (m + 0) + 1 ≤ k
    two_more n m k h = omega (arith, h)
two_counted k (f ∷ h ∷ g ∷ fs) e = absurd (omega (arith, e))

counted_call : (m : Elaboration) (count : ℕ) (rs : List ElaboratedPart) → IsCall m count → length (forms_found rs) ≡ count → nodes_in (forms_found rs) + 1 ≤ all_nodes (elaborate m rs)
counted_call m count rs (of_name n k) e = call_nodes n.0 (forms_found rs)
counted_call m count rs (of_value k h) e = call_value_nodes (forms_found rs)
counted_call m count rs (of_two t k h) e = two_counted t (forms_found rs) (e ∙ h)
counted_call m count rs (of_primitive p k h) e = prim_nodes p (forms_found rs)

call_counted : (p : Spots) (m : Elaboration) (ds : List Item) (rs : List ElaboratedPart) → IsCall m (length ds) → AllMatch p (each_form ds) rs → found_nodes rs + 1 ≤ all_nodes (elaborate m rs)
call_counted p m ds rs c x = enough_nodes _ _ _ (forms_counted p (each_form ds) rs x (forms_plain ds)) (counted_call m (length ds) rs c (forms_as_many p ds rs x))

call_own : (g h : Definitions) (m : Elaboration) (count : ℕ) (rs : List ElaboratedPart) → IsCall m count → OwnNumbers g h m rs
call_own g h m count rs (of_name n k) = tt
call_own g h m count rs (of_value k l) = tt
call_own g h m count rs (of_two t k l) = tt
call_own g h m count rs (of_primitive p k l) = tt

pub apt_all_parts : (n : ℕ) (m : Elaboration) (a : StaticContext) (s : Tables) (p : Place) (ds : List Item) → Stage a s → AllOf (WellFormed n) ds → IsCall m (length ds)
    → AptAt n a s (all_parts m a s p ds)
apt_all_parts n m a s p ds b g c =
    apt_within n a s 1 p _ (λ l. apt_made n a s (deeper 1 a) p s (each_form ds) m b
    (plain_parts n a s (each_form ds) m b (forms_apt n (deeper 1 a) ds g)
    (λ u rs x. found_call (defined u) a (deeper 1 a) m ds rs c l x.match) (call_ends m (length ds) c)
    (λ u rs x. call_counted (spots (defined u) (deeper 1 a) (deeper 1 a) rs) m ds rs c x.match)
    (λ u rs. call_own (defined s) (defined u) m (length ds) rs c)))

-- a call by name is one of these

primitive_taken : (o : Option Primitive) (count : ℕ) (p : Primitive) → taking count o ≡ Some p → count ≡ arity p
primitive_taken None count p h = absurd (cc h)
primitive_taken (Some q) count p h = by_test (nat_eq count (arity q)) refl h
  where
    by_test : (b : Bool) → nat_eq count (arity q) ≡ b → (if b then Some q else None) ≡ Some p → count ≡ arity p
    by_test true e k = let same : q ≡ p = cc k in eqb-true count (arity q) e ∙ ap arity same
    by_test false e k = absurd (cc k)

named_is_call : (n : Name) (count : ℕ) (o : Option Primitive) → ((p : Primitive) → o ≡ Some p → count ≡ arity p) → IsCall (named_making n o) count
named_is_call n count None h = of_name n count
named_is_call n count (Some p) h = of_primitive p count (h p refl)

one_of_two : (b : Bool) (count : ℕ) (x y : Elaboration) → (b ≡ true → IsCall x count) → IsCall y count → IsCall (if b then x else y) count
one_of_two true count x y f h = f refl
one_of_two false count x y f h = h

call_is : (n : Name) (text : List ℕ) (count : ℕ) → IsCall (call_making n text count) count
call_is n text count =
    one_of_two (is_value_call text count) count _ _ (λ e. of_value count (leb-true 1 count (and_parts (bytes_eq text (codes "funcall")) (nat_le 1 count) e).1))
    (one_of_two (is_pair_call text (codes "signal-condition") count) count _ _
    (λ e. of_two Signal count (eqb-true count 2 (and_parts (bytes_eq text (codes "signal-condition")) (nat_eq count 2) e).1))
    (one_of_two (is_pair_call text (codes "continue-condition") count) count _ _
    (λ e. of_two Continue count (eqb-true count 2 (and_parts (bytes_eq text (codes "continue-condition")) (nat_eq count 2) e).1))
    (named_is_call n count (primitive_called text count) (primitive_taken (primitive_named text) count))))

pub apt_named_call : (n : ℕ) (name : Name) (text : List ℕ) (a : StaticContext) (s : Tables) (p : Place) (ds : List Item) → Stage a s → AllOf (WellFormed n) ds
    → AptAt n a s (named_call name text a s p ds)
apt_named_call n name text a s p ds b g = apt_all_parts n (call_making name text (length ds)) a s p ds b g (call_is name text (length ds))

-- the call of a local function

pub apt_local_call : (n v : ℕ) (a : StaticContext) (s : Tables) (p : Place) (ds : List Item) → Stage a s → is_variable (scope_of a) v ≡ true → AllOf (WellFormed n) ds
    → AptAt n a s (local_call v a s p ds)
apt_local_call n v a s p ds b e g =
    apt_within n a s 2 p _ (λ l. apt_made n a s (deeper 1 a) p s (each_form ds) (CallOfLocal v) b
    (plain_parts n a s (each_form ds) (CallOfLocal v) b (forms_apt n (deeper 1 a) ds g)
    (λ u rs x. made_local_call (defined u) (scope_of a) a.spot.depth v (forms_found rs) (omega (arith, l)) e
    (forms_match (spots (defined u) (deeper 1 a) (deeper 1 a) rs) ds rs x.match))
    (λ u rs. refl)
    (λ u rs x.
    enough_nodes _ _ _ (forms_counted (spots (defined u) (deeper 1 a) (deeper 1 a) rs) (each_form ds) rs x.match (forms_plain ds))
    (local_call_nodes v (forms_found rs)))
    (λ u rs. tt)))
