-- Whether a datum is in form, as a test that computes.
use Rattle.std.specs.Prelude.{◌≡◌, ◌≢◌, ℕ, ℤ, pos, negsuc, ◌≤ℤ◌, int_le, Bool, true, false, ◌&&◌}
use Rattle.std.proofs.Common.{T, refl, ap, ◌∙◌}
use Rattle.std.proofs.lemmas.Float.{T_from_true}
use Rattle.base.specs.Data.{Item, item, Content, integer, character, symbol, string, vector, nil, list}
use Rattle.base.specs.Data.{Items, no_item, item_and, Tail, no_tail, dotted}
use Rattle.base.specs.DataMeasures.{Formed, FormedInside, AllFormed, FormedTail, IsNoList}

abbrev pub is_some_item : Items → Bool
is_some_item no_item = false
is_some_item (item_and d ds) = true

abbrev pub is_no_list : Content → Bool
is_no_list (integer n) = true
is_no_list (character c) = true
is_no_list (symbol s) = true
is_no_list (string bytes) = true
is_no_list (vector ds) = true
is_no_list nil = false
is_no_list (list ds t) = false

abbrev pub is_no_list_item : Item → Bool
is_no_list_item (item p c) = is_no_list c

abbrev pub has_30_bits : ℤ → Bool
has_30_bits n = int_le (negsuc 536870911) n && int_le n (pos 536870911)

abbrev mutual
  pub is_formed : Item → Bool
  is_formed (item p c) = is_formed_inside c

  pub is_formed_inside : Content → Bool
  is_formed_inside (integer n) = has_30_bits n
  is_formed_inside (character c) = true
  is_formed_inside (symbol s) = true
  is_formed_inside (string bytes) = true
  is_formed_inside (vector ds) = all_are_formed ds
  is_formed_inside nil = true
  is_formed_inside (list ds t) = is_some_item ds && all_are_formed ds && is_formed_tail t

  pub all_are_formed : Items → Bool
  all_are_formed no_item = true
  all_are_formed (item_and d ds) = is_formed d && all_are_formed ds

  pub is_formed_tail : Tail → Bool
  is_formed_tail no_tail = true
  is_formed_tail (dotted d) = is_no_list_item d && is_formed d

-- the test tells of the fact
both_true : (a b : Bool) → (a && b) ≡ true → (a ≡ true) × (b ≡ true)
both_true true b h = (refl, h)
both_true false b h = absurd (cc h)

bits_30 : (n : ℤ) → has_30_bits n ≡ true → (negsuc 536870911 ≤ℤ n) × (n ≤ℤ pos 536870911)
bits_30 n h =
    let both : (int_le (negsuc 536870911) n ≡ true) × (int_le n (pos 536870911) ≡ true) = both_true _ _ h in
    (record { le = T_from_true _ both.0 }, record { le = T_from_true _ both.1 })

no_list_told : (c : Content) → is_no_list c ≡ true → IsNoList c
no_list_told (integer n) h = tt
no_list_told (character c) h = tt
no_list_told (symbol s) h = tt
no_list_told (string bytes) h = tt
no_list_told (vector ds) h = tt
no_list_told nil h = absurd (cc h)
no_list_told (list ds t) h = absurd (cc h)

some_item_told : (ds : Items) → is_some_item ds ≡ true → ds ≢ no_item
some_item_told no_item h = absurd (cc h)
some_item_told (item_and d ds) h = λ e. absurd (cc e)

mutual
  unfolding Formed

  pub formed_told : (d : Item) → is_formed d ≡ true → Formed d
  formed_told (item p c) h = formed_inside_told c h

  formed_inside_told : (c : Content) → is_formed_inside c ≡ true → FormedInside c
  formed_inside_told (integer n) h = bits_30 n h
  formed_inside_told (character c) h = tt
  formed_inside_told (symbol s) h = tt
  formed_inside_told (string bytes) h = tt
  formed_inside_told (vector ds) h = all_formed_told ds h
  formed_inside_told nil h = tt
  formed_inside_told (list ds t) h =
      let outer : (is_some_item ds && all_are_formed ds ≡ true) × (is_formed_tail t ≡ true) = both_true _ _ h in
      let inner : (is_some_item ds ≡ true) × (all_are_formed ds ≡ true) = both_true _ _ outer.0 in
      (some_item_told ds inner.0, all_formed_told ds inner.1, formed_tail_told t outer.1)

  all_formed_told : (ds : Items) → all_are_formed ds ≡ true → AllFormed ds
  all_formed_told no_item h = tt
  all_formed_told (item_and d ds) h =
      let both : (is_formed d ≡ true) × (all_are_formed ds ≡ true) = both_true _ _ h in
      (formed_told d both.0, all_formed_told ds both.1)

  formed_tail_told : (t : Tail) → is_formed_tail t ≡ true → FormedTail t
  formed_tail_told no_tail h = tt
  formed_tail_told (dotted (item p c)) h =
      let both : (is_no_list c ≡ true) × (is_formed_inside c ≡ true) = both_true _ _ h in
      (no_list_told c both.0, formed_inside_told c both.1)

-- and the fact of the test
both_from : (a b : Bool) → a ≡ true → b ≡ true → (a && b) ≡ true
both_from a b h k = ap (λ x. x && b) h ∙ k

holds : (b : Bool) → T b → b ≡ true
holds true h = refl
holds false h = absurd h

bits_tell : (n : ℤ) → negsuc 536870911 ≤ℤ n → n ≤ℤ pos 536870911 → has_30_bits n ≡ true
bits_tell n h k = both_from _ _ (holds _ h.le) (holds _ k.le)

no_list_tells : (c : Content) → IsNoList c → is_no_list c ≡ true
no_list_tells (integer n) h = refl
no_list_tells (character c) h = refl
no_list_tells (symbol s) h = refl
no_list_tells (string bytes) h = refl
no_list_tells (vector ds) h = refl
no_list_tells nil h = absurd h
no_list_tells (list ds t) h = absurd h

some_item_tells : (ds : Items) → ds ≢ no_item → is_some_item ds ≡ true
some_item_tells no_item h = absurd (h refl)
some_item_tells (item_and d ds) h = refl

mutual
  unfolding Formed

  pub formed_tells : (d : Item) → Formed d → is_formed d ≡ true
  formed_tells (item p c) h = formed_inside_tells c h

  formed_inside_tells : (c : Content) → FormedInside c → is_formed_inside c ≡ true
  formed_inside_tells (integer n) h = bits_tell n h.0 h.1
  formed_inside_tells (character c) h = refl
  formed_inside_tells (symbol s) h = refl
  formed_inside_tells (string bytes) h = refl
  formed_inside_tells (vector ds) h = all_formed_tell ds h
  formed_inside_tells nil h = refl
  formed_inside_tells (list ds t) h =
      both_from _ _ (both_from _ _ (some_item_tells ds h.0) (all_formed_tell ds h.1)) (formed_tail_tells t h.2)

  all_formed_tell : (ds : Items) → AllFormed ds → all_are_formed ds ≡ true
  all_formed_tell no_item h = refl
  all_formed_tell (item_and d ds) h = both_from _ _ (formed_tells d h.0) (all_formed_tell ds h.1)

  formed_tail_tells : (t : Tail) → FormedTail t → is_formed_tail t ≡ true
  formed_tail_tells no_tail h = refl
  formed_tail_tells (dotted (item p c)) h = both_from _ _ (no_list_tells c h.0) (formed_inside_tells c h.1)
