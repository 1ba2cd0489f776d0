-- The machine goes through each open front of the grammar.
use Rattle.std.proofs.Common.{◌≡◌, ℕ, suc, ◌<◌, true, false, List as Seq, [], ◌∷◌, ◌++◌, length, Some, None, refl, sym, ap, subst, ◌∙◌, arith, if◌then◌else◌, codes}
use Rattle.std.specs.Str.{bytes_eq}
use Rattle.base.specs.declared.place.Place.{Place}
use Rattle.base.specs.Data.{Item, item, Content, nil, integer, character, string}
use Rattle.front_reader.specs.declared.opening.Opening.TheVariants.{List, Vector, Before}
use Rattle.front_reader.specs.declared.pending.Pending.{Pending}
use Rattle.front_reader.specs.declared.pending.Pending.TheVariants.{InList, AtDot, AtTail, InVector, AtPrefix}
use Rattle.front_reader.specs.Characters.{begins, is_token, place_behind}
use Rattle.front_reader.specs.Gaps.{Gap}
use Rattle.front_reader.specs.Atoms.{Atom, an_integer, a_character, a_symbol, a_string}
use Rattle.front_reader.specs.Trees.{Tree, atom, proper, improper, row, prefixed, Trees, no_tree, then_tree, prefix_bytes, spelled, spelled_all, behind, behind_all, Stands, StandsAll, IsSomeTree}
use Rattle.front_reader.specs.Meanings.{named, atom_content, prefix_name, Means, MeansAll}
use Rattle.front_reader.specs.Fronts.{Level, in_list, at_dot, at_tail, in_vector, at_prefix, level_spelled, dot_after, levels_spelled, levels_behind, StandsLevels, TakesMore}
use Rattle.front_reader.specs.bridge.Machine.{LexemeState, put_in, full_dot, LexemeSteps}
use Rattle.front_reader.proofs.Stepping.{Numbers, state, step-gap, step-dot, step-opening, steps-then, one-step}
use Rattle.front_reader.proofs.Completing.{a_list, a_vector, holding, at_top, opens, dot-taken, means-some, tree-steps, trees-steps}

-- these are the data of a front whose text begins at place p: those at the top, and those that are open
abbrev pub Held : Numbers → Place → Trees → Seq Level → Seq Item → Seq Pending → Type 0
Held number p ts [] done os = MeansAll number p ts done × (os ≡ [])
Held number p ts (in_list g us ∷ ls) done os =
    (ds : Seq Item) × ((rest : Seq Pending) ×
    ((os ≡ InList (place_behind (levels_behind p ts ls) g) ds ∷ rest)
    × MeansAll number (place_behind (place_behind (levels_behind p ts ls) g) (40 ∷ [])) us ds
    × Held number p ts ls done rest))
Held number p ts (at_dot g us h ∷ ls) done os =
    (ds : Seq Item) × ((rest : Seq Pending) ×
    ((os ≡ AtDot (place_behind (levels_behind p ts ls) g) ds (dot_after (levels_behind p ts ls) g us h) ∷ rest)
    × MeansAll number (place_behind (place_behind (levels_behind p ts ls) g) (40 ∷ [])) us ds
    × Held number p ts ls done rest))
Held number p ts (at_tail g us h i t ∷ ls) done os =
    (ds : Seq Item) × ((rest : Seq Pending) × ((e : Item) ×
    ((os ≡ AtTail (place_behind (levels_behind p ts ls) g) ds (dot_after (levels_behind p ts ls) g us h) e ∷ rest)
    × MeansAll number (place_behind (place_behind (levels_behind p ts ls) g) (40 ∷ [])) us ds
    × Held number p ts ls done rest
    × Means number (place_behind (place_behind (dot_after (levels_behind p ts ls) g us h) (46 ∷ [])) i) t e)))
Held number p ts (in_vector g us ∷ ls) done os =
    (ds : Seq Item) × ((rest : Seq Pending) ×
    ((os ≡ InVector (place_behind (levels_behind p ts ls) g) ds ∷ rest)
    × MeansAll number (place_behind (place_behind (levels_behind p ts ls) g) (35 ∷ 40 ∷ [])) us ds
    × Held number p ts ls done rest))
Held number p ts (at_prefix g x ∷ ls) done os =
    (n : ℕ) × ((rest : Seq Pending) ×
    ((os ≡ AtPrefix (place_behind (levels_behind p ts ls) g) (record { 0 = n }) ∷ rest)
    × (number (prefix_name x) ≡ Some n)
    × Held number p ts ls done rest))

-- as many are open as there are levels
pub held-length : (number : Numbers) (p : Place) (ts : Trees) (ls : Seq Level) (done : Seq Item) (os : Seq Pending)
    → Held number p ts ls done os → length os ≡ length ls
held-length number p ts [] done os h = ap length h.1
held-length number p ts (in_list g us ∷ ls) done os h =
    ap length h.1.1.0 ∙ ap suc (held-length number p ts ls done h.1.0 h.1.1.2)
held-length number p ts (at_dot g us k ∷ ls) done os h =
    ap length h.1.1.0 ∙ ap suc (held-length number p ts ls done h.1.0 h.1.1.2)
held-length number p ts (at_tail g us k i t ∷ ls) done os h =
    ap length h.1.1.1.0 ∙ ap suc (held-length number p ts ls done h.1.0 h.1.1.1.2)
held-length number p ts (in_vector g us ∷ ls) done os h =
    ap length h.1.1.0 ∙ ap suc (held-length number p ts ls done h.1.0 h.1.1.2)
held-length number p ts (at_prefix g x ∷ ls) done os h =
    ap length h.1.1.0 ∙ ap suc (held-length number p ts ls done h.1.0 h.1.1.2)

-- more may come where the front takes more
pub held-takes : (number : Numbers) (p : Place) (ts : Trees) (ls : Seq Level) (done : Seq Item) (os : Seq Pending)
    → Held number p ts ls done os → TakesMore ls → full_dot os ≡ None
held-takes number p ts [] done os h k = ap full_dot h.1
held-takes number p ts (in_list g us ∷ ls) done os h k = ap full_dot h.1.1.0
held-takes number p ts (at_dot g us j ∷ ls) done os h k = ap full_dot h.1.1.0
held-takes number p ts (at_tail g us j i t ∷ ls) done os h k = absurd k
held-takes number p ts (in_vector g us ∷ ls) done os h k = ap full_dot h.1.1.0
held-takes number p ts (at_prefix g x ∷ ls) done os h k = ap full_dot h.1.1.0

-- through a gap, a `(` and data
pub list-steps : (number : Numbers) (g : Seq ℕ) (us : Trees) (r : Seq ℕ) (p : Place) (done : Seq Item) (os : Seq Pending) (ds : Seq Item)
    → Gap g (40 ∷ spelled_all us r) → length os < 256 → full_dot os ≡ None → StandsAll (suc (length os)) us r
    → MeansAll number (place_behind (place_behind p g) (40 ∷ [])) us ds
    → LexemeSteps number (state (g ++ 40 ∷ spelled_all us r) p done os)
    (state r (behind_all (place_behind (place_behind p g) (40 ∷ [])) us) done (InList (place_behind p g) ds ∷ os))
list-steps number g us r p done os ds k n f s m =
    let q = place_behind p g in
    let inside = a_list q done os in
    steps-then number _ (holding inside (spelled_all us r) (place_behind q (40 ∷ [])) []) _
    (one-step number _ _
    (step-gap number g (40 ∷ spelled_all us r) p done os k
    ∙ step-opening number List (spelled_all us r) q done os tt
    ∙ opens number _ q _ List n f))
    (trees-steps number us inside r (place_behind q (40 ∷ [])) ds s m)

pub vector-steps : (number : Numbers) (g : Seq ℕ) (us : Trees) (r : Seq ℕ) (p : Place) (done : Seq Item) (os : Seq Pending) (ds : Seq Item)
    → Gap g (35 ∷ 40 ∷ spelled_all us r) → length os < 256 → full_dot os ≡ None → StandsAll (suc (length os)) us r
    → MeansAll number (place_behind (place_behind p g) (35 ∷ 40 ∷ [])) us ds
    → LexemeSteps number (state (g ++ 35 ∷ 40 ∷ spelled_all us r) p done os)
    (state r (behind_all (place_behind (place_behind p g) (35 ∷ 40 ∷ [])) us) done (InVector (place_behind p g) ds ∷ os))
vector-steps number g us r p done os ds k n f s m =
    let q = place_behind p g in
    let inside = a_vector q done os in
    steps-then number _ (holding inside (spelled_all us r) (place_behind q (35 ∷ 40 ∷ [])) []) _
    (one-step number _ _
    (step-gap number g (35 ∷ 40 ∷ spelled_all us r) p done os k
    ∙ step-opening number Vector (spelled_all us r) q done os tt
    ∙ opens number _ q _ Vector n f))
    (trees-steps number us inside r (place_behind q (35 ∷ 40 ∷ [])) ds s m)

-- through a gap and the dot of a list
pub dot-steps : (number : Numbers) (h r : Seq ℕ) (p q inner : Place) (us : Trees) (done : Seq Item) (os : Seq Pending) (ds : Seq Item)
    → Gap h (46 ∷ r) → IsSomeTree us → MeansAll number inner us ds → begins is_token r ≡ false
    → LexemeSteps number (state (h ++ 46 ∷ r) p done (InList q ds ∷ os))
    (state r (place_behind (place_behind p h) (46 ∷ [])) done (AtDot q ds (place_behind p h) ∷ os))
dot-steps number h r p q inner us done os ds k some m e =
    one-step number _ _
    (step-gap number h (46 ∷ r) p done (InList q ds ∷ os) k
    ∙ step-dot number r (place_behind p h) done (InList q ds ∷ os) e
    ∙ dot-taken (state r (place_behind (place_behind p h) (46 ∷ [])) done (InList q ds ∷ os)) (place_behind p h) (46 ∷ r) q ds os
    (means-some number inner us ds some m))

-- through a gap and the datum behind the dot
tail-steps : (number : Numbers) (i : Seq ℕ) (t : Tree) (r : Seq ℕ) (p : Place) (done : Seq Item) (q dot : Place)
    (os : Seq Pending) (ds : Seq Item) (e : Item) → Gap i (spelled t r) → Stands (suc (length os)) t r
    → Means number (place_behind p i) t e
    → LexemeSteps number (state (i ++ spelled t r) p done (AtDot q ds dot ∷ os))
    (state r (behind (place_behind p i) t) done (AtTail q ds dot e ∷ os))
unfolding put_in
tail-steps number i t r p done q dot os ds e k s m =
    tree-steps number t i r p done (AtDot q ds dot ∷ os) e k s m refl

-- the same, with what is open given by an equation
at-open : (number : Numbers) (s : LexemeState) (r : Seq ℕ) (p : Place) (done : Seq Item) (os us : Seq Pending) → os ≡ us
    → LexemeSteps number s (state r p done us) → LexemeSteps number s (state r p done os)
at-open number s r p done os us e a = subst (λ vs. LexemeSteps number s (state r p done vs)) (sym e) a

-- from the begin of a text to behind the levels of a front
pub front-steps : (number : Numbers) (p : Place) (ts : Trees) (ls : Seq Level) (r : Seq ℕ) (done : Seq Item) (os : Seq Pending)
    → StandsLevels ts ls r → Held number p ts ls done os
    → LexemeSteps number (state (levels_spelled ts ls r) p [] []) (state r (levels_behind p ts ls) done os)
front-steps number p ts [] r done os s h =
    at-open number _ r _ done os [] h.1 (trees-steps number ts at_top r p done s h.0)
front-steps number p ts (in_list g us ∷ ls) r done os s h =
    let n = held-length number p ts ls done h.1.0 h.1.1.2 in
    at-open number _ r _ done os _ h.1.1.0
    (steps-then number _ _ _
    (front-steps number p ts ls (level_spelled (in_list g us) r) done h.1.0 s.0 h.1.1.2)
    (list-steps number g us r (levels_behind p ts ls) done h.1.0 h.0 s.3.0 (omega (arith, s.1, n))
    (held-takes number p ts ls done h.1.0 h.1.1.2 s.2)
    (subst (λ k. StandsAll (suc k) us r) (sym n) s.3.1) h.1.1.1))
front-steps number p ts (in_vector g us ∷ ls) r done os s h =
    let n = held-length number p ts ls done h.1.0 h.1.1.2 in
    at-open number _ r _ done os _ h.1.1.0
    (steps-then number _ _ _
    (front-steps number p ts ls (level_spelled (in_vector g us) r) done h.1.0 s.0 h.1.1.2)
    (vector-steps number g us r (levels_behind p ts ls) done h.1.0 h.0 s.3.0 (omega (arith, s.1, n))
    (held-takes number p ts ls done h.1.0 h.1.1.2 s.2)
    (subst (λ k. StandsAll (suc k) us r) (sym n) s.3.1) h.1.1.1))
front-steps number p ts (at_dot g us k ∷ ls) r done os s h =
    let n = held-length number p ts ls done h.1.0 h.1.1.2 in
    let q = levels_behind p ts ls in
    let inner = place_behind (place_behind q g) (40 ∷ []) in
    at-open number _ r _ done os _ h.1.1.0
    (steps-then number _ _ _
    (front-steps number p ts ls (level_spelled (at_dot g us k) r) done h.1.0 s.0 h.1.1.2)
    (steps-then number _ _ _
    (list-steps number g us (k ++ 46 ∷ r) q done h.1.0 h.0 s.3.0 (omega (arith, s.1, n))
    (held-takes number p ts ls done h.1.0 h.1.1.2 s.2)
    (subst (λ k'. StandsAll (suc k') us (k ++ 46 ∷ r)) (sym n) s.3.2) h.1.1.1)
    (dot-steps number k r (behind_all inner us) (place_behind q g) inner us done h.1.0 h.0 s.3.3 s.3.1 h.1.1.1 s.3.4)))
front-steps number p ts (at_tail g us k i t ∷ ls) r done os s h =
    let n = held-length number p ts ls done h.1.0 h.1.1.1.2 in
    let q = levels_behind p ts ls in
    let inner = place_behind (place_behind q g) (40 ∷ []) in
    let tail = i ++ spelled t r in
    at-open number _ r _ done os _ h.1.1.1.0
    (steps-then number _ _ _
    (front-steps number p ts ls (level_spelled (at_tail g us k i t) r) done h.1.0 s.0 h.1.1.1.2)
    (steps-then number _ _ _
    (list-steps number g us (k ++ 46 ∷ tail) q done h.1.0 h.0 s.3.0 (omega (arith, s.1, n))
    (held-takes number p ts ls done h.1.0 h.1.1.1.2 s.2)
    (subst (λ k'. StandsAll (suc k') us (k ++ 46 ∷ tail)) (sym n) s.3.2) h.1.1.1.1)
    (steps-then number _ _ _
    (dot-steps number k tail (behind_all inner us) (place_behind q g) inner us done h.1.0 h.0 s.3.3 s.3.1 h.1.1.1.1 s.3.4)
    (tail-steps number i t r _ done _ _ h.1.0 h.0 h.1.1.0 s.3.5 (subst (λ k'. Stands (suc k') t r) (sym n) s.3.6) h.1.1.1.3))))
front-steps number p ts (at_prefix g x ∷ ls) r done os s h =
    let n = held-length number p ts ls done h.1.0 h.1.1.2 in
    let q = place_behind (levels_behind p ts ls) g in
    at-open number _ r _ done os _ h.1.1.0
    (steps-then number _ _ _
    (front-steps number p ts ls (level_spelled (at_prefix g x) r) done h.1.0 s.0 h.1.1.2)
    (one-step number _ _
    (step-gap number g (prefix_bytes x ++ r) (levels_behind p ts ls) done h.1.0 s.3.0
    ∙ step-opening number (Before x) r q done h.1.0 s.3.1
    ∙ opens number _ q _ (Before x) (omega (arith, s.1, n)) (held-takes number p ts ls done h.1.0 h.1.1.2 s.2)
    ∙ rw (h.1.1.1) refl)))

-- the numbering that gives each text the number 0: with it each tree means something
abbrev pub all_zero : Numbers
all_zero text = Some 0

content-exists : (a : Atom) → (c : Content) × (atom_content all_zero a ≡ Some c)
content-exists (an_integer n) = (integer n, refl)
content-exists (a_character c) = (character c, refl)
content-exists (a_string bytes) = (string bytes, refl)
content-exists (a_symbol name) =
    elim (bytes_eq name (codes "nil")) as (λ b. (c : Content) × ((if b then Some nil else named (Some 0)) ≡ Some c)) [
      | true ↦ (nil, refl)
      | false ↦ (_, refl)
    ]

mutual
  unfolding Means MeansAll

  pub means-exists : (p : Place) (t : Tree) → (d : Item) × Means all_zero p t d
  means-exists p (atom b a) =
      let c = content-exists a in (item p c.0, (c.0, (c.1, refl)))
  means-exists p (proper ts g) =
      let m = all-means-exist (place_behind p (40 ∷ [])) ts in (_, (m.0, (m.1, refl)))
  means-exists p (improper ts g h t i) =
      let m = all-means-exist (place_behind p (40 ∷ [])) ts in
      let n = means-exists (place_behind (place_behind (place_behind (behind_all (place_behind p (40 ∷ [])) ts) g) (46 ∷ [])) h) t in
      (_, (m.0, (n.0, (m.1, n.1, refl))))
  means-exists p (row ts g) =
      let m = all-means-exist (place_behind p (35 ∷ 40 ∷ [])) ts in (_, (m.0, (m.1, refl)))
  means-exists p (prefixed x g t) =
      let n = means-exists (place_behind (place_behind p (prefix_bytes x)) g) t in
      (_, (0, (n.0, (refl, n.1, refl))))

  pub all-means-exist : (p : Place) (ts : Trees) → (ds : Seq Item) × MeansAll all_zero p ts ds
  all-means-exist p no_tree = ([], refl)
  all-means-exist p (then_tree ts g t) =
      let m = all-means-exist p ts in
      let n = means-exists (place_behind (behind_all p ts) g) t in
      (_, (m.0, (n.0, (m.1, n.1, refl))))

-- with it each front has its data
pub held-exists : (p : Place) (ts : Trees) (ls : Seq Level) → (done : Seq Item) × ((os : Seq Pending) × Held all_zero p ts ls done os)
held-exists p ts [] = let m = all-means-exist p ts in (m.0, ([], (m.1, refl)))
held-exists p ts (in_list g us ∷ ls) =
    let h = held-exists p ts ls in let m = all-means-exist _ us in (h.0, (_, (m.0, (h.1.0, (refl, m.1, h.1.1)))))
held-exists p ts (at_dot g us k ∷ ls) =
    let h = held-exists p ts ls in let m = all-means-exist _ us in (h.0, (_, (m.0, (h.1.0, (refl, m.1, h.1.1)))))
held-exists p ts (at_tail g us k i t ∷ ls) =
    let h = held-exists p ts ls in let m = all-means-exist _ us in let n = means-exists _ t in
    (h.0, (_, (m.0, (h.1.0, (n.0, (refl, m.1, h.1.1, n.1))))))
held-exists p ts (in_vector g us ∷ ls) =
    let h = held-exists p ts ls in let m = all-means-exist _ us in (h.0, (_, (m.0, (h.1.0, (refl, m.1, h.1.1)))))
held-exists p ts (at_prefix g x ∷ ls) =
    let h = held-exists p ts ls in (h.0, (_, (0, (h.1.0, (refl, refl, h.1.1)))))
