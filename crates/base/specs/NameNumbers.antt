-- What a table of names keeps: beside the texts, the number of each.
use Rattle.std.specs.Prelude.{◌≡◌, ℕ, ◌≤◌, Bool, true, false, cond, List, [], ◌∷◌, ◌++◌, length, Option, Some, None, slice_get, Vec, refl}
use Rattle.std.specs.declared.alloc.Global.{Global}
use Rattle.std.specs.declared.cmp.Ordering.{Ordering}
use Rattle.std.specs.declared.cmp.Ordering.TheVariants.{Less, Equal, Greater}
use Rattle.std.specs.Ordering.{is_eq, nat_cmp, match_ordering}
use Rattle.std.specs.Cmp.Lexicographic.{slice_cmp}
use Rattle.std.specs.Map.{lookup}
use Rattle.std.specs.BTreeMap.{insert_entry}
use Rattle.std.proofs.Common.{⊎_elim, sym, ◌∙◌, ap, subst}
use Rattle.std.proofs.lemmas.Slice.Eq.{bytes_eq-Decides}
use Rattle.std.proofs.lemmas.Map.Text.{is_eq-slice_cmp}
use Rattle.base.specs.Names.{IsTable, has_text, with_text, name_of_text, has_text-from, slice_get-front, slice_get-behind, slice_get-push}

-- texts with their numbers
abbrev pub Entries : Type 0
Entries = List (Vec ℕ Global × ℕ)

-- the number that stands beside the text
abbrev pub number_in : List ℕ → Entries → Option ℕ
number_in t es = lookup (λ k. is_eq (slice_cmp nat_cmp t k.items)) es

-- each text has its own number, and none is longer than 263 bytes
pub record IsIndexed (texts : List (List ℕ)) (es : Entries) : Type 0 where
  pub found : (t : List ℕ) (i : ℕ) → number_in t es ≡ Some i → slice_get texts i ≡ Some t
  pub there : (t : List ℕ) (i : ℕ) → slice_get texts i ≡ Some t → number_in t es ≡ Some i
  pub short : (i : ℕ) (t : List ℕ) → slice_get texts i ≡ Some t → length t ≤ 263

pub none_indexed : IsIndexed [] []
none_indexed = record {
  found = λ t i h. absurd (cc);
  there = λ t i h. absurd (cc);
  short = λ i t h. absurd (cc);
}

pub table_of : (texts : List (List ℕ)) (es : Entries) → IsIndexed texts es → IsTable texts
table_of texts es x = record {
  once = λ i j t h k.
      let a : number_in t es ≡ Some i = x.there t i h in
      let b : number_in t es ≡ Some j = x.there t j k in
      cc;
  short = x.short;
}

-- a text that has a number stands in the table, so nothing is added
pub found_there : (texts : List (List ℕ)) (es : Entries) (t : List ℕ) (i : ℕ) → IsIndexed texts es → number_in t es ≡ Some i
    → with_text texts t ≡ texts
found_there texts es t i x h = rw (has_text-from texts i t (x.found t i h)) refl

-- a text that has none does not
pub not_there : (texts : List (List ℕ)) (es : Entries) (t : List ℕ) → IsIndexed texts es → number_in t es ≡ None
    → has_text texts t ≡ false
not_there texts es t x h = by (has_text texts t) (λ e. let r : (i : ℕ) × (slice_get texts i ≡ Some t) = name_of_text texts t e in let k : number_in t es ≡ Some r.0 = x.there t r.0 r.1 in cc)
  where
    by : (b : Bool) → (b ≡ true → ⊥) → b ≡ false
    by true f = absurd (f refl)
    by false f = refl

-- a text that does not stand in the table has no number
pub no_number : (texts : List (List ℕ)) (es : Entries) (t : List ℕ) → IsIndexed texts es → has_text texts t ≡ false
    → number_in t es ≡ None
no_number texts es t x h = by (number_in t es) refl
  where
    by : (o : Option ℕ) → number_in t es ≡ o → o ≡ None
    by None e = refl
    by (Some i) e = let there : has_text texts t ≡ true = has_text-from texts i t (x.found t i e) in absurd (cc)

-- texts that compare equal are one text
same_text : (a b : List ℕ) → is_eq (slice_cmp nat_cmp a b) ≡ true → a ≡ b
same_text a b h = (bytes_eq-Decides a b).0 (sym (is_eq-slice_cmp a b) ∙ h)

text_is_itself : (a b : List ℕ) → a ≡ b → is_eq (slice_cmp nat_cmp a b) ≡ true
text_is_itself a b e = is_eq-slice_cmp a b ∙ (bytes_eq-Decides a b).1 e

-- the order of the texts
abbrev pub text_order : Vec ℕ Global → Vec ℕ Global → Ordering
text_order a b = slice_cmp nat_cmp a.items b.items

-- two tests of which one at most holds stand in either order
either_order : {X : Type 0} (a b : Bool) (x y z : X) → (a ≡ true → b ≡ true → ⊥) → cond a x (cond b y z) ≡ cond b y (cond a x z)
either_order true true x y z f = absurd (f refl refl)
either_order true false x y z f = refl
either_order false b x y z f = refl

-- a search that finds nothing passes the first entry
first_passed : (b : Bool) (n : ℕ) (rest : Option ℕ) → cond b (Some n) rest ≡ None → (b ≡ false) × (rest ≡ None)
first_passed true n rest h = absurd (cc)
first_passed false n rest h = (refl, h)

-- what a search finds once a text that was not there has its number
pub number_after : (es : Entries) (k : Vec ℕ Global) (n : ℕ) (t : List ℕ) → number_in k.items es ≡ None
    → number_in t (insert_entry text_order es k n) ≡ cond (is_eq (slice_cmp nat_cmp t k.items)) (Some n) (number_in t es)
number_after [] k n t h = refl
number_after (e ∷ es) k n t h =
    let passed : (is_eq (text_order k e.0) ≡ false) × (number_in k.items es ≡ None) = first_passed (is_eq (text_order k e.0)) e.1 (number_in k.items es) h in
    by (text_order k e.0) refl passed.0 (number_after es k n t passed.1)
  where
    by : (o : Ordering) → text_order k e.0 ≡ o → is_eq (text_order k e.0) ≡ false
        → number_in t (insert_entry text_order es k n) ≡ cond (is_eq (slice_cmp nat_cmp t k.items)) (Some n) (number_in t es)
        → number_in t (match_ordering o ((k, n) ∷ e ∷ es) ((e.0, n) ∷ es) (e ∷ insert_entry text_order es k n))
        ≡ cond (is_eq (slice_cmp nat_cmp t k.items)) (Some n) (number_in t (e ∷ es))
    by Less is p q = refl
    by Equal is p q = let b : is_eq Equal ≡ false = ap is_eq (sym is) ∙ p in absurd (cc)
    by Greater is p q =
        rw q
        (either_order (is_eq (slice_cmp nat_cmp t e.0.items)) (is_eq (slice_cmp nat_cmp t k.items)) (Some e.1) (Some n) (number_in t es)
        (λ a b.
        let same : k.items ≡ e.0.items = sym (same_text t k.items b) ∙ same_text t e.0.items a in
        let equal : is_eq (text_order k e.0) ≡ true = text_is_itself k.items e.0.items same in
        cc))

-- with one more text at its end
pub text_added : (texts : List (List ℕ)) (es : Entries) (k : Vec ℕ Global) → IsIndexed texts es → number_in k.items es ≡ None → length k.items ≤ 263
    → IsIndexed (texts ++ k.items ∷ []) (insert_entry text_order es k (length texts))
text_added texts es k x new short = record {
  found = λ t i h. by_found t i (is_eq (slice_cmp nat_cmp t k.items)) refl (sym (number_after es k (length texts) t new) ∙ h);
  there = λ t i h.
      ⊎_elim
      (λ a.
      let n : number_in t es ≡ Some i = x.there t i a in
      number_after es k (length texts) t new ∙ by_there t i n (is_eq (slice_cmp nat_cmp t k.items)) refl)
      (λ (p : (i ≡ length texts) × (k.items ≡ t)).
      let same : is_eq (slice_cmp nat_cmp t k.items) ≡ true = text_is_itself t k.items (sym p.1) in
      number_after es k (length texts) t new ∙ rw same (ap Some (sym p.0)))
      (slice_get-push texts k.items i t h);
  short = λ i t h.
      ⊎_elim (λ a. x.short i t a) (λ (p : (i ≡ length texts) × (k.items ≡ t)). let P : List ℕ → Type 0 = λ s. length s ≤ 263 in subst P p.1 short) (slice_get-push texts k.items i t h);
}
  where
    by_found : (t : List ℕ) (i : ℕ) (b : Bool) → is_eq (slice_cmp nat_cmp t k.items) ≡ b → cond b (Some (length texts)) (number_in t es) ≡ Some i
        → slice_get (texts ++ k.items ∷ []) i ≡ Some t
    by_found t i true is h =
        let at : length texts ≡ i = cc in
        let same : k.items ≡ t = sym (same_text t k.items is) in
        let P : ℕ → Type 0 = λ j. slice_get (texts ++ k.items ∷ []) j ≡ Some t in
        subst P at (slice_get-behind texts k.items ∙ ap Some same)
    by_found t i false is h = slice_get-front texts (k.items ∷ []) i t (x.found t i h)

    by_there : (t : List ℕ) (i : ℕ) → number_in t es ≡ Some i → (b : Bool) → is_eq (slice_cmp nat_cmp t k.items) ≡ b
        → cond b (Some (length texts)) (number_in t es) ≡ Some i
    by_there t i n true is =
        let same : t ≡ k.items = same_text t k.items is in
        let none : number_in t es ≡ None = ap (λ s. number_in s es) same ∙ new in
        absurd (cc)
    by_there t i n false is = n

-- the same where the code has other names for the parts
pub text_pushed : (texts texts' : List (List ℕ)) (es es' : Entries) (k : Vec ℕ Global) (t kept : List ℕ) (n : ℕ)
    → IsIndexed texts es → has_text texts t ≡ false → length t ≤ 263
    → k.items ≡ t → kept ≡ t → n ≡ length texts → texts' ≡ texts ++ kept ∷ [] → es' ≡ insert_entry text_order es k n
    → IsIndexed texts' es'
text_pushed texts texts' es es' k t kept n x new short a b e f g =
    let same : kept ≡ k.items = b ∙ sym a in
    let absent : number_in k.items es ≡ None = no_number texts es k.items x (ap (has_text texts) a ∙ new) in
    let fits : length k.items ≤ 263 = let P : List ℕ → Type 0 = λ s. length s ≤ 263 in subst P (sym a) short in
    let texts_are : texts' ≡ texts ++ k.items ∷ [] = f ∙ ap (λ s. texts ++ s ∷ []) same in
    let es_are : es' ≡ insert_entry text_order es k (length texts) = g ∙ ap (insert_entry text_order es k) e in
    rw (texts_are, es_are) (text_added texts es k x absent fits)
