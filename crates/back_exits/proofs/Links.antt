-- The search of an exit by its number.
use Rattle.std.proofs.Common.{◌≡◌, ◌⊎◌, inl, inr, ℕ, zero, suc, ◌+◌, ◌<◌, ◌≤◌, Bool, true, false, List, [], ◌∷◌, length, Option, Some, refl, sym, ap, ◌∙◌, subst, arith}
use Rattle.std.specs.Prelude.{◌==◌, ◌^◌, nat_lt, if◌then◌else◌}
use Rattle.std.proofs.lemmas.Bool.{ne_eqb}
use Rattle.std.proofs.lemmas.Bool.Decides.{nat_tests}
use Rattle.lang_meaning.specs.State.{Exit}
use Rattle.mid_code.specs.declared.program.MidProcedure.{MidProcedure}
use Rattle.mid_code.specs.Arena.{word_at}
use Rattle.mid_code.specs.State.{Registers, MidState, MidOutcome}
use Rattle.mid_code.specs.Meaning.{Task}
use Rattle.mid_arena.proofs.Running.{and_then, none_left, load_falls, address_up, repeat_falls, repeat_turn}
use Rattle.back_lowering.specs.ControlWords.{record_serial, record_link}
use Rattle.back_relation.specs.Worlds.{World, Standing, for_exit, IsIn, Links, EndsAtEnd, record_of_exit}
use Rattle.back_relation.specs.StackWords.{RecordAt, UseAt}
use Rattle.back_exits.specs.Searches.{Misses, IsLong}
use Rattle.back_exits.specs.Links.{link_registers, has_number, NumberSought, found, missing, LinksWalked, LawOfLinks}
use Rattle.back_exits.proofs.Searches.{finds_first, finds_behind, misses_none, misses_behind, long_first, long_behind}

-- no exit has a number from a greater one on
none_below : (rs : List Standing) (e a most : ℕ) (xs : List Exit) (vs : List Standing) → Links rs a most xs vs → most ≤ e → Misses (has_number e) xs
none_below rs e a most [] [] h l = misses_none (has_number e)
none_below rs e a most [] (v ∷ vs) h l = absurd h
none_below rs e a most (x ∷ xs) [] h l = absurd h
none_below rs e a most (x ∷ xs) (v ∷ vs) h l =
    let less : x.number < most = h.3 in
    misses_behind (has_number e) x xs (ne_eqb x.number e (λ same. omega (arith, same, less, l))) (none_below rs e v.link x.number xs vs h.4 (omega (arith, less, l)))

-- what is read of a record
pub record Linked (y : MidState) (x : Exit) (v : Standing) : Type 0 where
  pub low : v.address + 24 < 2 ^ 32
  pub serial : word_at y.arena (v.address + record_serial) ≡ Some x.number
  pub link : word_at y.arena (v.address + record_link) ≡ Some v.link

pub linked : (w : World) (y : MidState) (x : Exit) (v : Standing) → length y.arena.memory ≤ 2 ^ 24 → v.role ≡ for_exit x → RecordAt w y v → Linked y x v
linked w y x v small role at =
    let used : UseAt w y v (for_exit x) = subst (λ u. UseAt w y v u) role at.role in
    record { low = omega (arith, at.high, small); serial = used.0; link = used.1 }

module _ (procedures : List MidProcedure) (below : Task → MidState → MidOutcome) (e word landing : ℕ) (r6 : Option ℕ) (w : World) (y : MidState) (rs : List Standing)
    (small : length y.arena.memory ≤ 2 ^ 24) (records : (r : Standing) → IsIn r rs → RecordAt w y r) where
  abbrev WalkedTo : ℕ → ℕ → Option ℕ → ℕ → List Exit → List Standing → Type 0
  WalkedTo n a r5 cost xs vs = LinksWalked procedures below n e word landing r6 y a r5 cost xs vs

  abbrev regs_at : ℕ → Option ℕ → Registers
  regs_at a r5 = link_registers e word landing a r5 r6

  -- numbers are no greater here
  stops :
      (n : ℕ) (r5 : Option ℕ) (cost : ℕ) (x : Exit) (v : Standing) (xs : List Exit) (vs : List Standing) → Linked y x v → Links rs v.link x.number xs vs
      → nat_lt e x.number ≡ false → WalkedTo n v.address r5 cost (x ∷ xs) (v ∷ vs)
  stops n r5 cost x v xs vs here l h = record {
    passed = 0;
    at = v.address;
    serial = x.number;
    total = cost + 8 + 12;
    run = (repeat_falls (and_then (load_falls refl (address_up v.address record_serial (let low = here.low in omega arith)) here.serial) none_left) refl refl h).same;
    cost_is = omega arith;
    sought = by (x.number == e) refl;
  }
    where
      by : (b : Bool) → (x.number == e) ≡ b → NumberSought e (x ∷ xs) (v ∷ vs) 0 v.address x.number
      by true g =
          let same : x.number ≡ e = grind (arith, nat_tests) in
          found x v same same refl (ap (λ b. if b then Some v else record_of_exit e xs vs) g) (finds_first (has_number e) x xs g)
      by false g =
          let less : x.number ≤ e = grind (arith, nat_tests) in
          missing g (omega arith) (misses_behind (has_number e) x xs g (none_below rs e v.link x.number xs vs l less))

  -- one exit is passed
  passes :
      (n : ℕ) (r5 : Option ℕ) (cost : ℕ) (x : Exit) (v : Standing) (xs : List Exit) (vs : List Standing) → Linked y x v → nat_lt e x.number ≡ true
      → WalkedTo n v.link (Some x.number) (cost + 8 + 12 + 8 + 2) xs vs → WalkedTo (suc n) v.address r5 cost (x ∷ xs) (v ∷ vs)
  passes n r5 cost x v xs vs here h rest = record {
    passed = rest.passed + 1;
    at = rest.at;
    serial = rest.serial;
    total = rest.total;
    run =
        (repeat_turn procedures below n
        (and_then (load_falls refl (address_up v.address record_serial (let low = here.low in omega arith)) here.serial) none_left) refl refl h
        (and_then (load_falls refl (address_up v.address record_link (let low = here.low in omega arith)) here.link) none_left)
        (record { same = rest.run })).same;
    cost_is = omega (arith, rest.cost_is);
    sought = by rest.sought;
  }
    where
      other : (x.number == e) ≡ false
      other = grind (arith, nat_tests)

      by : NumberSought e xs vs rest.passed rest.at rest.serial → NumberSought e (x ∷ xs) (v ∷ vs) (rest.passed + 1) rest.at rest.serial
      by (found x' v' f g k r s) =
          found x' v' f g k (ap (λ b. if b then Some v else record_of_exit e xs vs) other ∙ r) (finds_behind (has_number e) x x' xs rest.passed other s)
      by (missing f g s) = missing f (omega (arith, g)) (misses_behind (has_number e) x xs other s)

  links_walked :
      (xs : List Exit) (vs : List Standing) (n a most : ℕ) (r5 : Option ℕ) (cost : ℕ) → Links rs a most xs vs → EndsAtEnd xs
      → WalkedTo n a r5 cost xs vs ⊎ IsLong (has_number e) xs n
  links_walked [] vs n a most r5 cost l end = absurd end
  links_walked (x ∷ xs) [] n a most r5 cost l end = absurd l
  links_walked (x ∷ []) (v ∷ vs) n a most r5 cost l end =
      inl (subst (λ b. WalkedTo n b r5 cost (x ∷ []) (v ∷ vs)) (sym l.0)
      (stops n r5 cost x v [] vs (linked w y x v small l.2 (records v l.1)) l.4 (let same : x.number ≡ 0 = ap (λ (x : Exit). x.number) end in grind (arith, nat_tests))))
  links_walked (x ∷ x' ∷ xs) (v ∷ vs) n a most r5 cost l end =
      subst (λ b. WalkedTo n b r5 cost (x ∷ x' ∷ xs) (v ∷ vs) ⊎ IsLong (has_number e) (x ∷ x' ∷ xs) n) (sym l.0)
      (by n (nat_lt e x.number) refl (λ m c. links_walked (x' ∷ xs) vs m v.link x.number (Some x.number) c l.4 end.1))
    where
      here : Linked y x v
      here = linked w y x v small l.2 (records v l.1)

      further : (n : ℕ) → nat_lt e x.number ≡ true → WalkedTo n v.link (Some x.number) (cost + 8 + 12 + 8 + 2) (x' ∷ xs) vs ⊎ IsLong (has_number e) (x' ∷ xs) n
          → WalkedTo (suc n) v.address r5 cost (x ∷ x' ∷ xs) (v ∷ vs) ⊎ IsLong (has_number e) (x ∷ x' ∷ xs) (suc n)
      further n g (inl rest) = inl (passes n r5 cost x v (x' ∷ xs) vs here g rest)
      further n g (inr rest) = inr (long_behind (has_number e) x (x' ∷ xs) n (grind (arith, nat_tests)) rest)

      by : (n : ℕ) → (b : Bool) → nat_lt e x.number ≡ b
          → ((m c : ℕ) → WalkedTo m v.link (Some x.number) c (x' ∷ xs) vs ⊎ IsLong (has_number e) (x' ∷ xs) m)
          → WalkedTo n v.address r5 cost (x ∷ x' ∷ xs) (v ∷ vs) ⊎ IsLong (has_number e) (x ∷ x' ∷ xs) n
      by n false g inner = inl (stops n r5 cost x v (x' ∷ xs) vs here l.4 g)
      by zero true g inner = inr (long_first (has_number e) x (x' ∷ xs))
      by (suc n) true g inner = further n g (inner n (cost + 8 + 12 + 8 + 2))

pub links_law : LawOfLinks
links_law procedures below number word landing r6 w y rs xs vs n a most r5 cost small records links end =
    links_walked procedures below number word landing r6 w y rs small records xs vs n a most r5 cost links end
