-- Tables with one class more.
use Rattle.std.proofs.Common.{◌≡◌, ℕ, ◌+◌, ◌<◌, ◌≤◌, ◌==◌, nat_lt, ⊎_elim, Bool, true, false, List, [], ◌∷◌, ◌++◌, Option, Some, None, take, length, slice_get, refl, sym, ap, subst, ◌∙◌, if◌then◌else◌, length-append, add-one, arith}
use Rattle.std.specs.Option.{option_map}
use Rattle.std.specs.Ordering.{nat_cmp}
use Rattle.std.specs.BTreeMap.{BTreeMap, Updates, is_at}
use Rattle.std.proofs.lemmas.List.{take-append-le, take_all}
use Rattle.std.proofs.lemmas.Option.{slice_get_within}
use Rattle.std.proofs.lemmas.Bool.{eq-eqb, ne_eqb, eqb-true, lt-ltb, le-ltb, cases_lt, cases_eq}
use Rattle.base.specs.declared.datum.Name.{Name}
use Rattle.base.specs.Names.{slice_get-push}
use Rattle.lang_meaning.specs.declared.program.ClassRow.{ClassRow}
use Rattle.lang_meaning.specs.declared.program.SlotRow.{SlotRow}
use Rattle.lang_classes.specs.InheritedClasses.{Hierarchy, IsRow, AreClasses, class_named}
use Rattle.lang_classes.specs.InheritedSlots.{same_name}
use Rattle.lang_classes.specs.Table.{IsIndexed}
use Rattle.lang_classes.specs.FirstNames.{either}

-- a class that is found is found among more
named-front : (rows : List ClassRow) (row : ClassRow) (n : Name) (c : ℕ) → class_named rows n ≡ Some c → class_named (rows ++ row ∷ []) n ≡ Some c
named-front [] row n c h = absurd (cc)
named-front (r ∷ rows) row n c h = by (same_name n r.name) (class_named rows n) (class_named (rows ++ row ∷ []) n) (λ k e. named-front rows row n k e) refl h
  where
    by : (b : Bool) (o p : Option ℕ) → ((k : ℕ) → class_named rows n ≡ Some k → p ≡ Some k) → class_named rows n ≡ o
        → (if b then Some 0 else option_map (λ k. k + 1) o) ≡ Some c → (if b then Some 0 else option_map (λ k. k + 1) p) ≡ Some c
    by true o p f e h = h
    by false None p f e h = absurd (cc)
    by false (Some k) p f e h = rw (f k e) h

-- one that is not may be the last
named-behind : (rows : List ClassRow) (row : ClassRow) (n : Name) → class_named rows n ≡ None
    → class_named (rows ++ row ∷ []) n ≡ (if same_name n row.name then Some (length rows) else None)
named-behind [] row n h = refl
named-behind (r ∷ rows) row n h = by (same_name n r.name) (class_named rows n) (class_named (rows ++ row ∷ []) n) (λ e. named-behind rows row n e) refl h
  where
    last : (b : Bool) → option_map (λ k. k + 1) (if b then Some (length rows) else None) ≡ (if b then Some (length (r ∷ rows)) else None)
    last true = rw (add-one (length rows)) refl
    last false = refl

    by : (b : Bool) (o p : Option ℕ) → (class_named rows n ≡ None → p ≡ (if same_name n row.name then Some (length rows) else None))
        → class_named rows n ≡ o → (if b then Some 0 else option_map (λ k. k + 1) o) ≡ None
        → (if b then Some 0 else option_map (λ k. k + 1) p) ≡ (if same_name n row.name then Some (length (r ∷ rows)) else None)
    by true o p f e h = absurd (cc)
    by false (Some k) p f e h = absurd (cc)
    by false None p f e h = rw (f e) (last (same_name n row.name))

module _ (h : Hierarchy) (row : ClassRow) (own : List SlotRow) (a : AreClasses h)
    (new : class_named h.rows row.name ≡ None) (right : IsRow h.rows (h.own ++ own ∷ []) (length h.rows) row) where
  front_right : (c : ℕ) (r : ClassRow) → slice_get h.rows c ≡ Some r → IsRow (take c (h.rows ++ row ∷ [])) (take (c + 1) (h.own ++ own ∷ [])) c r
  front_right c r k =
      let below : c < length h.rows = slice_get_within h.rows c r k in
      let rows_stay : take c (h.rows ++ row ∷ []) ≡ take c h.rows = take-append-le c h.rows (row ∷ []) (omega arith) in
      let own_stays : take (c + 1) (h.own ++ own ∷ []) ≡ take (c + 1) h.own = take-append-le (c + 1) h.own (own ∷ []) (omega (arith, a.paired)) in
      rw (rows_stay, own_stays) (a.right c r k)

  last_right : (c : ℕ) (r : ClassRow) → c ≡ length h.rows → row ≡ r → IsRow (take c (h.rows ++ row ∷ [])) (take (c + 1) (h.own ++ own ∷ [])) c r
  last_right c r e k =
      let rows_stay : take c (h.rows ++ row ∷ []) ≡ h.rows = take-append-le c h.rows (row ∷ []) (omega arith) ∙ take_all c h.rows (omega arith) in
      let all : length (h.own ++ own ∷ []) ≤ c + 1 = omega (arith, length-append h.own (own ∷ []), a.paired) in
      let own_stays : take (c + 1) (h.own ++ own ∷ []) ≡ h.own ++ own ∷ [] = take_all (c + 1) (h.own ++ own ∷ []) all in
      let P : ℕ → ClassRow → Type 0 = λ d x. IsRow h.rows (h.own ++ own ∷ []) d x in
      rw (rows_stay, own_stays) (subst (λ d. P d r) (sym e) (subst (λ x. P (length h.rows) x) k right))

  pub added : AreClasses (record { rows = h.rows ++ row ∷ []; own = h.own ++ own ∷ [] })
  added = record {
    paired = length-append h.own (own ∷ []) ∙ ap (λ n. n + 1) a.paired ∙ sym (length-append h.rows (row ∷ []));
    right = λ c r k. ⊎_elim (λ front. front_right c r front) (λ last. last_right c r last.0 last.1) (slice_get-push h.rows row c r k);
    named = λ c r k.
        ⊎_elim
        (λ front. named-front h.rows row r.name c (a.named c r front))
        (λ last. named_last c r last.0 last.1)
        (slice_get-push h.rows row c r k);
  }
    where
      named_last : (c : ℕ) (r : ClassRow) → c ≡ length h.rows → row ≡ r → class_named (h.rows ++ row ∷ []) r.name ≡ Some c
      named_last c r e k =
          let absent : class_named h.rows r.name ≡ None = ap (λ x. class_named h.rows x.name) (sym k) ∙ new in
          let same : same_name r.name row.name ≡ true = eq-eqb r.name.0 row.name.0 (ap (λ x. x.name.0) (sym k)) in
          named-behind h.rows row r.name absent ∙ ap (λ b. if b then Some (length h.rows) else None) same ∙ ap Some (sym e)

-- the key of a name is found by that name
pub key_found : (a b : ℕ) → is_at (nat_cmp a) b ≡ (b == a)
key_found a b =
    ⊎_elim
    (λ l. let less : nat_lt a b ≡ true = lt-ltb a b l in let other : (b == a) ≡ false = ne_eqb b a (λ e. omega arith) in rw (less, other) refl)
    (λ g. let least : nat_lt a b ≡ false = le-ltb a b g in
    ⊎_elim
    (λ e. let one : (a == b) ≡ true = eq-eqb a b e in let two : (b == a) ≡ true = eq-eqb b a (sym e) in rw (least, one, two) refl)
    (λ n. let one : (a == b) ≡ false = ne_eqb a b n in let two : (b == a) ≡ false = ne_eqb b a (λ e. n (sym e)) in rw (least, one, two) refl)
    (cases_eq a b))
    (cases_lt a b)

-- a search among the rows and one more
pub named-more : (rows : List ClassRow) (row : ClassRow) (n : Name) → class_named rows row.name ≡ None
    → class_named (rows ++ row ∷ []) n ≡ (if same_name n row.name then Some (length rows) else class_named rows n)
named-more rows row n new =
    ⊎_elim
    (λ s.
    let e : n ≡ row.name = ap (λ k. let m : Name = record { 0 = k } in m) (eqb-true n.0 row.name.0 s) in
    let absent : class_named rows n ≡ None = ap (class_named rows) e ∙ new in
    rw s (named-behind rows row n absent ∙ rw s refl))
    (λ o. rw o (other o (class_named rows n) refl))
    (either (same_name n row.name))
  where
    other : same_name n row.name ≡ false → (o : Option ℕ) → class_named rows n ≡ o → class_named (rows ++ row ∷ []) n ≡ class_named rows n
    other a None e = rw e (named-behind rows row n e ∙ rw a refl)
    other a (Some c) e = rw e (named-front rows row n c e)

-- the number of the name is that of the class
indexed : (h : Hierarchy) (row : ClassRow) (own : List SlotRow) (numbers after : BTreeMap ℕ ℕ) → IsIndexed h numbers
    → class_named h.rows row.name ≡ None → IsRow h.rows (h.own ++ own ∷ []) (length h.rows) row
    → Updates nat_cmp numbers after row.name.0 (Some (length h.rows))
    → IsIndexed (record { rows = h.rows ++ row ∷ []; own = h.own ++ own ∷ [] }) after
indexed h row own numbers after x new right u = record {
  classes = added h row own x.classes new right;
  found = λ n. u.0 n.0 ∙ rw (key_found row.name.0 n.0, x.found n) (sym (named-more h.rows row n new));
}

-- the same where the code has other names for the parts
pub pushed : (before h : Hierarchy) (row : ClassRow) (own : List SlotRow) (numbers after : BTreeMap ℕ ℕ)
    (rows' : List ClassRow) (own' : List (List SlotRow)) (number : ℕ) → before ≡ h → IsIndexed before numbers
    → class_named h.rows row.name ≡ None → IsRow h.rows (h.own ++ own ∷ []) (length h.rows) row
    → number ≡ length before.rows → Updates nat_cmp numbers after row.name.0 (Some number)
    → rows' ≡ before.rows ++ row ∷ [] → own' ≡ before.own ++ own ∷ []
    → IsIndexed (record { rows = rows'; own = own' }) after
pushed before h row own numbers after rows' own' number e x new right n u r o =
    let P : Hierarchy → Type 0 = λ k. class_named k.rows row.name ≡ None in
    let Q : Hierarchy → Type 0 = λ k. IsRow k.rows (k.own ++ own ∷ []) (length k.rows) row in
    let R : ℕ → Type 0 = λ k. Updates nat_cmp numbers after row.name.0 (Some k) in
    rw (r, o) (indexed before row own numbers after x (subst P (sym e) new) (subst Q (sym e) right) (subst R n u))
