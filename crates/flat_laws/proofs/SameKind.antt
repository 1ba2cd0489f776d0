-- Objects with the same blank are of the same kind and size; and so what a later state has of an object that was there.
use Rattle.std.proofs.Common.{◌≡◌, ℕ, true, List, refl, sym, ap, ◌∙◌, Option, Some, None, length}
use Rattle.std.proofs.lemmas.List.{length-replicate}
use Rattle.std.proofs.lemmas.Option.{slice_get_within}
use Rattle.std.specs.Prelude.{replicate, slice_get}
use Rattle.lang_meaning.specs.Values.{Value, nil}
use Rattle.lang_meaning.specs.Objects.{Object, cons, string, vector, instance}
use Rattle.lang_meaning.specs.Classes.{class_of_object}
use Rattle.flat_language.specs.FlatState.{FlatState}
use Rattle.flat_laws.specs.Blanks.{blank, is_fixed, StaysOfKind}
use Rattle.flat_laws.specs.FlatLater.{FlatLater}
use Rattle.flat_laws.specs.Laws.{LawOfBlanks}

-- a blank is of the class of its object
blank_class : (o : Option Object) → class_of_object (blank o) ≡ class_of_object o
blank_class (Some (cons a d)) = refl
blank_class o = refl

-- in a blank can be set what can be set in its object
blank_fixed : (o : Option Object) → is_fixed (blank o) ≡ is_fixed o
blank_fixed (Some (cons a d)) = refl
blank_fixed o = refl

-- where nothing can, it is the object
fixed_blank : (o : Option Object) → is_fixed o ≡ true → blank o ≡ o
fixed_blank (Some (cons a d)) h = absurd (cc h)
fixed_blank (Some (string bytes)) h = absurd (cc h)
fixed_blank (Some (vector vs)) h = absurd (cc h)
fixed_blank (Some (instance class slots mark)) h = absurd (cc h)
fixed_blank o h = refl

of_pair : (o : Option Object) → blank o ≡ Some (cons nil nil) → (b : Value) × ((e : Value) × (o ≡ Some (cons b e)))
of_pair (Some (cons b e)) h = (b, (e, refl))
of_pair o h = absurd (cc h)

-- two lists of one item, as long as others, have one length
as_long : {X Y : Type 0} (x : X) (ys zs : List Y) → replicate (length ys) x ≡ replicate (length zs) x → length ys ≡ length zs
as_long x ys zs e = sym (length-replicate (length ys) x) ∙ ap length e ∙ length-replicate (length zs) x

of_characters : (o : Option Object) (bytes : List ℕ) → blank o ≡ Some (string (replicate (length bytes) 0))
    → (now : List ℕ) × (o ≡ Some (string now) × length now ≡ length bytes)
of_characters (Some (string now)) bytes h =
    let none : ℕ = 0 in
    let e : replicate (length now) none ≡ replicate (length bytes) none = cc h in (now, (refl, as_long none now bytes e))
of_characters o bytes h = absurd (cc h)

of_elements : (o : Option Object) (vs : List Value) → blank o ≡ Some (vector (replicate (length vs) nil))
    → (now : List Value) × (o ≡ Some (vector now) × length now ≡ length vs)
of_elements (Some (vector now)) vs h =
    let e : replicate (length now) nil ≡ replicate (length vs) nil = cc h in (now, (refl, as_long nil now vs e))
of_elements o vs h = absurd (cc h)

of_slots : (o : Option Object) (c : ℕ) (vs : List (Option Value)) → blank o ≡ Some (instance c (replicate (length vs) None) nil)
    → (now : List (Option Value)) × ((new : Value) × (o ≡ Some (instance c now new) × length now ≡ length vs))
of_slots (Some (instance class now new)) c vs h =
    let same : class ≡ c = cc h in
    let none : Option Value = None in
    let e : replicate (length now) none ≡ replicate (length vs) none = cc h in
    (now, (new, (ap (λ (n : ℕ). Some (instance n now new)) same, as_long none now vs e)))
of_slots o c vs h = absurd (cc h)

pub law_of_blanks : LawOfBlanks
law_of_blanks before after h = record {
  class = sym (blank_class after) ∙ ap class_of_object h ∙ blank_class before;
  fixed = λ f.
      sym (fixed_blank after (sym (blank_fixed after) ∙ ap is_fixed h ∙ blank_fixed before ∙ f)) ∙ h ∙ fixed_blank before f;
  pair = λ a d e. of_pair after (h ∙ ap blank e);
  characters = λ bytes e. of_characters after bytes (h ∙ ap blank e);
  elements = λ vs e. of_elements after vs (h ∙ ap blank e);
  slots = λ c vs mark e. of_slots after c vs (h ∙ ap blank e);
}

-- what is there of an object in a later state
pub object_stays : {a b : FlatState} → FlatLater a b → (i : ℕ) (o : Object) → slice_get a.state.store i ≡ Some o
    → StaysOfKind (Some o) (slice_get b.state.store i)
object_stays {a} {b} g i o h =
    law_of_blanks (Some o) (slice_get b.state.store i)
    (g.objects i (slice_get_within a.state.store i o h) ∙ ap blank h)
