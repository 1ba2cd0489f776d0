-- **The conses of a list**, each once, as the meaning spreads it: behind the last one is nil, a value that is no cons, or a cons that was passed.
use Rattle.std.proofs.Common.{◌≡◌, ◌⊎◌, inl, inr, ℕ, zero, suc, ◌+◌, ◌<◌, ◌≤◌, Bool, true, false, List, [], ◌∷◌, length, Option, Some, None, refl, sym, ap, ◌∙◌, arith}
use Rattle.std.specs.Prelude.{◌||◌, ◌==◌, slice_get, map, if◌then◌else◌}
use Rattle.std.proofs.lemmas.Bool.{eqb-true, eq-eqb}
use Rattle.base.specs.AllOf.{AllOf}
use Rattle.lang_meaning.specs.Classes.{fetch}
use Rattle.lang_meaning.specs.Lookup.{is_in}
use Rattle.lang_meaning.specs.Meaning.{Spread, spread_at, spread}
use Rattle.lang_meaning.specs.Objects.{Object, cons}
use Rattle.lang_meaning.specs.State.{State}
use Rattle.lang_meaning.specs.Values.{Value, integer, character, symbol, nil, object}
use Rattle.back_generics.proofs.Numbers.{IsNew, AreDifferent, no_more}

-- the numbers of conses, each the cdr of the one before, with their cars; and what is behind the last one
abbrev pub Path : State → List (ℕ × Value) → Value → Value → Type 0
Path z [] v last = v ≡ last
Path z (c ∷ cs) v last = (d : Value) × (v ≡ object c.0) × (fetch z v ≡ Some (cons c.1 d)) × Path z cs d last

abbrev pub numbers : List (ℕ × Value) → List ℕ
numbers cs = map (λ c. c.0) cs

abbrev pub cars : List (ℕ × Value) → List Value
cars cs = map (λ c. c.1) cs

abbrev pub IsAmong : ℕ → List ℕ → Type 0
IsAmong n [] = ⊥
IsAmong n (m ∷ ms) = (n ≡ m) ⊎ IsAmong n ms

abbrev pub IsCons : State → Value → Type 0
IsCons z v = (a d : Value) × (fetch z v ≡ Some (cons a d))

-- how a list ends, after so many steps at most, where these numbers were seen before
pub data Ending (z : State) (fuel : ℕ) (seen passed : List ℕ) (last : Value) (proper : Bool) : Type 0 where
  at_nil : last ≡ nil → proper ≡ true → Ending z fuel seen passed last proper
  at_other : (last ≡ nil → ⊥) → (IsCons z last → ⊥) → proper ≡ false → Ending z fuel seen passed last proper
  at_one_seen : (n : ℕ) → last ≡ object n → is_in n seen ≡ true → proper ≡ false → Ending z fuel seen passed last proper
  at_one_passed : (n : ℕ) → last ≡ object n → IsAmong n passed → proper ≡ false → Ending z fuel seen passed last proper
  at_last_step : fuel ≤ length passed → Ending z fuel seen passed last proper

pub record SpreadIs (z : State) (fuel : ℕ) (seen : List ℕ) (v : Value) (s : Spread) : Type 0 where
  pub cells : List (ℕ × Value)
  pub last : Value
  pub path : Path z cells v last
  pub elements : s.elements ≡ cars cells
  pub different : AreDifferent (numbers cells)
  pub unseen : AllOf (λ n. is_in n seen ≡ false) (numbers cells)
  pub end : Ending z fuel seen (numbers cells) last s.proper

stored_below : {X : Type 0} (xs : List X) (i : ℕ) (x : X) → slice_get xs i ≡ Some x → i < length xs
stored_below [] i x e = absurd (cc e)
stored_below (y ∷ ys) zero x e = omega arith
stored_below (y ∷ ys) (suc i) x e = let h = stored_below ys i x e in omega (arith, h)

-- what was not seen with one more is another one, and was not seen before
unseen_new : (n : ℕ) (seen ns : List ℕ) → AllOf (λ m. is_in m (n ∷ seen) ≡ false) ns → IsNew n ns
unseen_new n seen [] h = tt
unseen_new n seen (m ∷ ms) h = ((λ same. differ same h.0), unseen_new n seen ms h.1)
  where
    differ : n ≡ m → is_in m (n ∷ seen) ≡ false → ⊥
    differ same e = absurd (cc (first (m == n) (is_in m seen) (eq-eqb m n (sym same)), e))
      where
        first : (a b : Bool) → a ≡ true → (a || b) ≡ true
        first a b e = ap (λ t. t || b) e

unseen_before : (n : ℕ) (seen ns : List ℕ) → AllOf (λ m. is_in m (n ∷ seen) ≡ false) ns → AllOf (λ m. is_in m seen ≡ false) ns
unseen_before n seen [] h = tt
unseen_before n seen (m ∷ ms) h = (second (m == n) (is_in m seen) h.0, unseen_before n seen ms h.1)
  where
    second : (a b : Bool) → (a || b) ≡ false → b ≡ false
    second true b e = absurd (cc e)
    second false b e = e

ends_here : (z : State) (fuel : ℕ) (seen : List ℕ) (v : Value) (s : Spread) → s.elements ≡ [] → Ending z fuel seen [] v s.proper → SpreadIs z fuel seen v s
ends_here z fuel seen v s none end = record { cells = []; last = v; path = refl; elements = none; different = tt; unseen = tt; end = end }

seen_or_passed :
    {z : State} {ns : List ℕ} {last : Value} {q : Bool} (n m i : ℕ) (seen : List ℕ) → last ≡ object m → q ≡ false → (b : Bool) → (m == i) ≡ b → (b || is_in m seen) ≡ true
    → Ending z (suc n) seen (i ∷ ns) last q
seen_or_passed n m i seen x h true one k = at_one_passed m x (inl (eqb-true m i one)) h
seen_or_passed n m i seen x h false one k = at_one_seen m x k h

pub spread_is : (z : State) (fuel : ℕ) (seen : List ℕ) (v : Value) → SpreadIs z fuel seen v (spread fuel z seen v)
spread_is z zero seen v = ends_here z zero seen v (record { elements = []; proper = false }) refl (at_last_step (omega arith))
spread_is z (suc n) seen v = by v refl (fetch z v) refl (λ i d. spread_is z n (i ∷ seen) d)
  where
    whole : Spread
    whole = spread (suc n) z seen v

    no_cons : (o : Option Object) → fetch z v ≡ o → ((a d : Value) → o ≡ Some (cons a d) → ⊥) → IsCons z v → ⊥
    no_cons o e other it = other it.0 it.1 (sym e ∙ it.2)

    atom : (u : Value) → v ≡ u → (u ≡ nil → ⊥) → ((o : Option Object) → spread_at (λ i d. spread n z (i ∷ seen) d) seen u o ≡ record { elements = []; proper = false }) → fetch z u ≡ None → SpreadIs z (suc n) seen v whole
    atom u e other ends none =
        let same : whole ≡ record { elements = []; proper = false } = ap (λ x. spread_at (λ i d. spread n z (i ∷ seen) d) seen x (fetch z v)) e ∙ ends (fetch z v) in
        ends_here z (suc n) seen v whole (ap (λ (s : Spread). s.elements) same)
        (at_other (λ is. other (sym e ∙ is)) (no_cons None (ap (fetch z) e ∙ none) (λ a d f. absurd (cc f))) (ap (λ (s : Spread). s.proper) same))

    of_object : (i : ℕ) → v ≡ object i → (o : Option Object) → fetch z v ≡ o → ((a d : Value) → o ≡ Some (cons a d) → ⊥)
        → spread_at (λ j d. spread n z (j ∷ seen) d) seen (object i) o ≡ record { elements = []; proper = false } → SpreadIs z (suc n) seen v whole
    of_object i e o f other ends =
        let same : whole ≡ record { elements = []; proper = false } = ap (λ x. spread_at (λ j d. spread n z (j ∷ seen) d) seen v x) f ∙ ap (λ x. spread_at (λ j d. spread n z (j ∷ seen) d) seen x o) e ∙ ends in
        ends_here z (suc n) seen v whole (ap (λ (s : Spread). s.elements) same)
        (at_other (λ is. absurd (cc (e, is))) (no_cons o f other) (ap (λ (s : Spread). s.proper) same))

    of_cons : (i : ℕ) (a d : Value) → v ≡ object i → fetch z v ≡ Some (cons a d) → (b : Bool) → is_in i seen ≡ b → SpreadIs z n (i ∷ seen) d (spread n z (i ∷ seen) d) → SpreadIs z (suc n) seen v whole
    of_cons i a d e f true was rest =
        let same : whole ≡ record { elements = []; proper = false } =
        ap (λ x. spread_at (λ j t. spread n z (j ∷ seen) t) seen v x) f ∙ ap (λ x. spread_at (λ j t. spread n z (j ∷ seen) t) seen x (Some (cons a d))) e
        ∙ ap (λ (t : Bool). let r : Spread = record { elements = []; proper = false } in if t then r else record { elements = a ∷ (spread n z (i ∷ seen) d).elements; proper = (spread n z (i ∷ seen) d).proper }) was
        in
        ends_here z (suc n) seen v whole (ap (λ (s : Spread). s.elements) same) (at_one_seen i e was (ap (λ (s : Spread). s.proper) same))
    of_cons i a d e f false was rest =
        let same : whole ≡ record { elements = a ∷ (spread n z (i ∷ seen) d).elements; proper = (spread n z (i ∷ seen) d).proper } =
        ap (λ x. spread_at (λ j t. spread n z (j ∷ seen) t) seen v x) f ∙ ap (λ x. spread_at (λ j t. spread n z (j ∷ seen) t) seen x (Some (cons a d))) e
        ∙ ap (λ (t : Bool). let r : Spread = record { elements = []; proper = false } in if t then r else record { elements = a ∷ (spread n z (i ∷ seen) d).elements; proper = (spread n z (i ∷ seen) d).proper }) was
        in
        let proper : whole.proper ≡ (spread n z (i ∷ seen) d).proper = ap (λ (s : Spread). s.proper) same in
        record {
          cells = (i, a) ∷ rest.cells;
          last = rest.last;
          path = (d, e, f, rest.path);
          elements = ap (λ (s : Spread). s.elements) same ∙ ap (λ l. a ∷ l) rest.elements;
          different = (unseen_new i seen (numbers rest.cells) rest.unseen, rest.different);
          unseen = (was, unseen_before i seen (numbers rest.cells) rest.unseen);
          end = ended rest.end proper;
        }
      where
        ended : {last : Value} {ns : List ℕ} {p q : Bool} → Ending z n (i ∷ seen) ns last p → q ≡ p → Ending z (suc n) seen (i ∷ ns) last q
        ended (at_nil x h) s = at_nil x (s ∙ h)
        ended (at_other x y h) s = at_other x y (s ∙ h)
        ended (at_one_seen m x y h) s = seen_or_passed n m i seen x (s ∙ h) (m == i) refl y
        ended (at_one_passed m x y h) s = at_one_passed m x (inr y) (s ∙ h)
        ended (at_last_step h) s = at_last_step (omega (arith, h))

    by :
        (u : Value) → v ≡ u → (o : Option Object) → fetch z v ≡ o → ((i : ℕ) (d : Value) → SpreadIs z n (i ∷ seen) d (spread n z (i ∷ seen) d)) → SpreadIs z (suc n) seen v whole
    by nil e o f more =
        let same : whole ≡ record { elements = []; proper = true } = ap (λ x. spread_at (λ i d. spread n z (i ∷ seen) d) seen x (fetch z v)) e in
        ends_here z (suc n) seen v whole (ap (λ (s : Spread). s.elements) same) (at_nil e (ap (λ (s : Spread). s.proper) same))
    by (integer k) e o f more = atom (integer k) e (λ is. absurd (cc is)) (λ p. refl) refl
    by (character k) e o f more = atom (character k) e (λ is. absurd (cc is)) (λ p. refl) refl
    by (symbol k) e o f more = atom (symbol k) e (λ is. absurd (cc is)) (λ p. refl) refl
    by (object i) e (Some (cons a d)) f more = of_cons i a d e f (is_in i seen) refl (more i d)
    by (object i) e None f more = of_object i e None f (λ a d k. absurd (cc k)) refl
    by (object i) e (Some o) f more = of_object i e (Some o) f (λ a d k. absurd (cc k)) refl

-- the whole list: its conses are no more than the objects, so it does not end for want of steps
pub record ListIs (z : State) (v : Value) : Type 0 where
  pub cells : List (ℕ × Value)
  pub last : Value
  pub path : Path z cells v last
  pub elements : (spread (length z.store + 1) z [] v).elements ≡ cars cells
  pub different : AreDifferent (numbers cells)
  pub end : Ending z (suc (length (numbers cells))) [] (numbers cells) last (spread (length z.store + 1) z [] v).proper

pub path_stored : (z : State) (cells : List (ℕ × Value)) (v last : Value) → Path z cells v last → AllOf (λ n. n < length z.store) (numbers cells)
path_stored z [] v last path = tt
path_stored z (c ∷ cs) v last path = (stored_below z.store c.0 (cons c.1 path.0) (ap (fetch z) (sym path.1) ∙ path.2), path_stored z cs path.0 last path.3)

many_numbers : (cells : List (ℕ × Value)) → length (numbers cells) ≡ length cells
many_numbers [] = refl
many_numbers (c ∷ cs) = ap (λ n. suc n) (many_numbers cs)

pub list_is : (z : State) (v : Value) → ListIs z v
list_is z v =
    let s = spread_is z (length z.store + 1) [] v in
    record { cells = s.cells; last = s.last; path = s.path; elements = s.elements; different = s.different; end = ended s.end (no_more (length z.store) (numbers s.cells) s.different (path_stored z s.cells v s.last s.path)) }
  where
    ended : {last : Value} {ns : List ℕ} {p : Bool} → Ending z (length z.store + 1) [] ns last p → length ns ≤ length z.store → Ending z (suc (length ns)) [] ns last p
    ended (at_nil x h) few = at_nil x h
    ended (at_other x y h) few = at_other x y h
    ended (at_one_seen m x y h) few = at_one_seen m x y h
    ended (at_one_passed m x y h) few = at_one_passed m x y h
    ended (at_last_step h) few = absurd (omega (arith, h, few))
