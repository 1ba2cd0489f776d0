-- What is found from a link on: the things of the innermost frame that links, and then what is found from its link on.
use Rattle.std.proofs.Common.{◌≡◌, ◌≢◌, ℕ, zero, suc, ◌+◌, ◌<◌, ◌≤◌, ◌==◌, true, false, List, [], ◌∷◌, ◌++◌, Option, Some, None, refl, ap, ◌∙◌, sym, length, min, arith, ⊎_elim}
use Rattle.std.proofs.lemmas.List.{length-append}
use Rattle.std.proofs.lemmas.Grind.{reverse_onto}
use Rattle.std.proofs.lemmas.Bool.{cases_lt, lt-ltb, le-ltb}
use Rattle.std.proofs.lemmas.Bool.Decides.{nat_tests, eqb_tells}
use Rattle.std.specs.Prelude.{reverse, nat_lt, slice_get, if◌then◌else◌}
use Rattle.eval_state.specs.Chains.{Linking, following, chained}

-- the item above so many others
abbrev pub above : {X : Type 0} → List X → ℕ → Option X
above [] n = None
above (w ∷ ws) n = if n == length ws then Some w else above ws n

pub above_last : {X : Type 0} (w : X) (ws : List X) (n : ℕ) → n ≡ length ws → above (w ∷ ws) n ≡ Some w
above_last w ws n e =
    let t : (n == length ws) ≡ true = grind (arith, nat_tests) in
    rw t refl

pub above_other : {X : Type 0} (w : X) (ws : List X) (n : ℕ) → n ≢ length ws → above (w ∷ ws) n ≡ above ws n
above_other w ws n h =
    let t : (n == length ws) ≡ false = grind (arith, nat_tests) in
    rw t refl

-- from a link on, where it is above the frame on top or not
pub inside : {F X : Type 0} (of : F → Option (Linking X)) (w : F) (ws : List F) (n : ℕ) → n ≤ length ws → chained of (w ∷ ws) n ≡ chained of ws n
unfolding chained
inside of w ws n h = let t : nat_lt (length ws) n ≡ false = le-ltb (length ws) n h in rw t refl

pub over : {F X : Type 0} (of : F → Option (Linking X)) (w : F) (ws : List F) (n : ℕ) → length ws < n → chained of (w ∷ ws) n ≡ following (of w) (λ m. chained of ws m) n
unfolding chained
over of w ws n h = let t : nat_lt (length ws) n ≡ true = lt-ltb (length ws) n h in rw t refl

-- a link beyond the frames means the same as one to the last frame
at_top : {F X : Type 0} (of : F → Option (Linking X)) (ws : List F) (n m : ℕ) (l : Option (Linking X)) → chained of ws n ≡ chained of ws m
    → following l (λ k. chained of ws k) n ≡ following l (λ k. chained of ws k) m
at_top of ws n m (Some l) h = refl
at_top of ws n m None h = h

pub capped : {F X : Type 0} (of : F → Option (Linking X)) (ws : List F) (n : ℕ) → chained of ws n ≡ chained of ws (min n (length ws))
unfolding chained
capped of [] n = refl
capped of (w ∷ ws) n =
    ⊎_elim
    (λ (h : length ws < n).
    let e : min n (suc (length ws)) ≡ suc (length ws) = omega arith in
    let low : min n (length ws) ≡ length ws = omega arith in
    let high : min (suc (length ws)) (length ws) ≡ length ws = omega arith in
    let below : chained of ws n ≡ chained of ws (suc (length ws)) =
    capped of ws n ∙ ap (chained of ws) (low ∙ sym high) ∙ sym (capped of ws (suc (length ws))) in
    over of w ws n h ∙ at_top of ws n (suc (length ws)) (of w) below ∙ sym (over of w ws (suc (length ws)) (omega arith)) ∙ ap (chained of (w ∷ ws)) (sym e))
    (λ (h : n ≤ length ws).
    let e : min n (suc (length ws)) ≡ n = omega arith in
    ap (chained of (w ∷ ws)) (sym e))
    (cases_lt (length ws) n)

-- what stands above so many others
pub there_below : {X : Type 0} (ws : List X) (n : ℕ) (w : X) → above ws n ≡ Some w → n < length ws
there_below [] n w h = absurd (cc)
there_below (x ∷ ws) n w h =
    ⊎_elim
    (λ (e : n < length ws). omega arith)
    (λ (e : length ws ≤ n). ⊎_elim (λ (k : length ws < n). absurd (omega (arith, there_below ws n w (sym (above_other x ws n (λ q. omega arith)) ∙ h)))) (λ (k : n ≤ length ws). omega arith) (cases_lt (length ws) n))
    (cases_lt n (length ws))

-- no frame between two places links
pub record Unlinked {F X : Type 0} (of : F → Option (Linking X)) (ws : List F) (low high : ℕ) : Type 0 where
  pub none : (i : ℕ) (w : F) → low ≤ i → i < high → above ws i ≡ Some w → of w ≡ None

-- the same below the frame on top
unlinked_below : {F X : Type 0} (of : F → Option (Linking X)) (w : F) (ws : List F) (low high : ℕ) → Unlinked of (w ∷ ws) low high → Unlinked of ws low high
unlinked_below of w ws low high u = record {
  none = λ i x l h e. u.none i x l h (above_other w ws i (λ q. let b = there_below ws i x e in omega arith) ∙ e);
}

-- a frame that is passed
pass : {F X : Type 0} (of : F → Option (Linking X)) (w : F) (ws : List F) (n : ℕ) → (length ws < n → of w ≡ None) → chained of (w ∷ ws) n ≡ chained of ws n
pass of w ws n h =
    ⊎_elim
    (λ (k : length ws < n). over of w ws n k ∙ ap (λ l. following l (λ m. chained of ws m) n) (h k))
    (λ (k : n ≤ length ws). inside of w ws n k)
    (cases_lt (length ws) n)

-- nothing links: nothing is found
pub nothing_near : {F X : Type 0} (of : F → Option (Linking X)) (ws : List F) (n : ℕ) → Unlinked of ws 0 n → chained of ws n ≡ []
unfolding chained
nothing_near of [] n u = refl
nothing_near of (w ∷ ws) n u =
    pass of w ws n (λ k. u.none (length ws) w (omega arith) k (above_last w ws (length ws) refl))
    ∙ nothing_near of ws n (unlinked_below of w ws 0 n u)

-- the innermost frame that links
pub near : {F X : Type 0} (of : F → Option (Linking X)) (ws : List F) (n place : ℕ) (w : F) (l : Linking X)
    → above ws place ≡ Some w → place < n → of w ≡ Some l → Unlinked of ws (suc place) n
    → chained of ws n ≡ l.items ++ chained of ws (min l.next place)
near of [] n place w l there below links u = absurd (cc)
near of (x ∷ ws) n place w l there below links u =
    ⊎_elim
    (λ (k : place < length ws).
    let here : above ws place ≡ Some w = sym (above_other x ws place (λ q. omega arith)) ∙ there in
    pass of x ws n (λ m. u.none (length ws) x (omega arith) m (above_last x ws (length ws) refl))
    ∙ near of ws n place w l here below links (unlinked_below of x ws (suc place) n u)
    ∙ ap (λ ys. l.items ++ ys) (sym (inside of x ws (min l.next place) (omega arith))))
    (λ (k : length ws ≤ place).
    let h : place < suc (length ws) = there_below (x ∷ ws) place w there in
    let e : place ≡ length ws = omega arith in
    let same : Some x ≡ Some w = sym (above_last x ws place e) ∙ there in
    let xl : of x ≡ Some l = ap of (cc same) ∙ links in
    over of x ws n (omega arith)
    ∙ ap (λ o. following o (λ m. chained of ws m) n) xl
    ∙ ap (λ ys. l.items ++ ys) (capped of ws l.next ∙ ap (λ m. chained of ws (min l.next m)) (sym e) ∙ sym (inside of x ws (min l.next place) (omega arith))))
    (cases_lt place (length ws))

-- an item of a list from its front is one of the reversed list above so many others
above_past : {X : Type 0} (ws : List X) (n : ℕ) → length ws ≤ n → above ws n ≡ None
above_past [] n h = refl
above_past (w ∷ ws) n h = above_other w ws n (λ q. omega arith) ∙ above_past ws n (omega arith)

above_front : {X : Type 0} (ws vs : List X) (k : ℕ) → above (ws ++ vs) (length vs + k) ≡ above ws k
above_front [] vs k = above_past vs (length vs + k) (omega arith)
above_front (w ∷ ws) vs k =
    let e : length (ws ++ vs) ≡ length ws + length vs = length-append ws vs in
    ⊎_elim
    (λ p. above_last w (ws ++ vs) (length vs + k) (omega (arith, p.1)) ∙ sym (above_last w ws k p.1))
    (λ p. above_other w (ws ++ vs) (length vs + k) (λ q. p.1 (omega arith)) ∙ above_front ws vs k ∙ sym (above_other w ws k p.1))
    (eqb_tells k (length ws))

above_behind : {X : Type 0} (ws vs : List X) (n : ℕ) → n < length vs → above (ws ++ vs) n ≡ above vs n
above_behind [] vs n h = refl
above_behind (w ∷ ws) vs n h =
    let e : length (ws ++ vs) ≡ length ws + length vs = length-append ws vs in
    above_other w (ws ++ vs) n (λ q. omega arith) ∙ above_behind ws vs n h

pub above_reverse : {X : Type 0} (xs : List X) (n : ℕ) → above (reverse xs) n ≡ slice_get xs n
above_reverse [] n = refl
above_reverse (x ∷ xs) zero = ap (λ ws. above ws 0) (reverse_onto xs x []) ∙ above_behind (reverse xs) (x ∷ []) 0 (omega arith) ∙ above_last x [] 0 refl
above_reverse (x ∷ xs) (suc n) =
    let e : suc n ≡ length (x ∷ []) + n = omega arith in
    ap (λ ws. above ws (suc n)) (reverse_onto xs x []) ∙ ap (above (reverse xs ++ x ∷ [])) e ∙ above_front (reverse xs) (x ∷ []) n ∙ above_reverse xs n
