-- The machine goes through each tree of the grammar, and then has its datum.
use Rattle.std.proofs.Common.{◌≡◌, ℕ, suc, ◌<◌, false, nat_le, List as Seq, [], ◌∷◌, ◌++◌, length, None, refl, sym, ap, subst, ◌∙◌, rules, tests}
use Rattle.base.specs.declared.place.Place.{Place}
use Rattle.base.specs.Data.{Item}
use Rattle.front_reader.specs.declared.opening.Opening.{Opening}
use Rattle.front_reader.specs.declared.opening.Opening.TheVariants.{List, Vector, Before}
use Rattle.front_reader.specs.declared.pending.Pending.{Pending}
use Rattle.front_reader.specs.declared.pending.Pending.TheVariants.{InList, AtDot, AtTail, InVector, AtPrefix}
use Rattle.front_reader.specs.Characters.{place_behind}
use Rattle.front_reader.specs.Gaps.{Gap}
use Rattle.front_reader.specs.Trees.{Tree, atom, proper, improper, row, prefixed, Trees, no_tree, then_tree, prefix_bytes, spelled, spelled_all, behind, behind_all, Stands, StandsAll, IsSomeTree}
use Rattle.front_reader.specs.Meanings.{Means, MeansAll}
use Rattle.front_reader.specs.bridge.Machine.{LexemeState, next, put_in, full_dot, opening_step, opened, dot_step, LexemeSteps, none, more}
use Rattle.front_reader.proofs.Stepping.{Numbers, state, step-gap, step-atom, step-close, step-dot, step-opening, steps-then, one-step}

-- where data stand in order: at the top, in a list or in a vector
pub data Holder : Type 0 where
  at_top : Holder
  a_list : Place → Seq Item → Seq Pending → Holder
  a_vector : Place → Seq Item → Seq Pending → Holder

-- the state with these data there
abbrev pub holding : Holder → Seq ℕ → Place → Seq Item → LexemeState
holding at_top r p ds = state r p ds []
holding (a_list q done os) r p ds = state r p done (InList q ds ∷ os)
holding (a_vector q done os) r p ds = state r p done (InVector q ds ∷ os)

abbrev pub held_done : Holder → Seq Item → Seq Item
held_done at_top ds = ds
held_done (a_list q done os) ds = done
held_done (a_vector q done os) ds = done

abbrev pub held_pending : Holder → Seq Item → Seq Pending
held_pending at_top ds = []
held_pending (a_list q done os) ds = InList q ds ∷ os
held_pending (a_vector q done os) ds = InVector q ds ∷ os

-- how many openings are open there
abbrev pub depth_of : Holder → ℕ
depth_of at_top = 0
depth_of (a_list q done os) = suc (length os)
depth_of (a_vector q done os) = suc (length os)

holding-parts : (h : Holder) (r : Seq ℕ) (p : Place) (ds : Seq Item)
    → holding h r p ds ≡ state r p (held_done h ds) (held_pending h ds)
holding-parts at_top r p ds = refl
holding-parts (a_list q done os) r p ds = refl
holding-parts (a_vector q done os) r p ds = refl

held-depth : (h : Holder) (ds : Seq Item) → length (held_pending h ds) ≡ depth_of h
held-depth at_top ds = refl
held-depth (a_list q done os) ds = refl
held-depth (a_vector q done os) ds = refl

held-open : (h : Holder) (ds : Seq Item) → full_dot (held_pending h ds) ≡ None
held-open at_top ds = refl
held-open (a_list q done os) ds = refl
held-open (a_vector q done os) ds = refl

held-put : (h : Holder) (r : Seq ℕ) (p : Place) (ds : Seq Item) (d : Item)
    → put_in r p (held_done h ds) (held_pending h ds) d ≡ holding h r p (ds ++ d ∷ [])
unfolding put_in
held-put at_top r p ds d = refl
held-put (a_list q done os) r p ds d = refl
held-put (a_vector q done os) r p ds d = refl

-- an opening where one more may be open
pub opens : (number : Numbers) (s : LexemeState) (p : Place) (r : Seq ℕ) (o : Opening) → length s.pending < 256
    → full_dot s.pending ≡ None → opening_step number s p r o ≡ opened number s p o
opens number s p r o n f =
    let le : nat_le 256 (length s.pending) ≡ false = search (rules, tests) in
    rw (le, f) refl

-- a list with one more at its end has a first item
pub some-items : (ds : Seq Item) (d : Item) → (e : Item) × ((es : Seq Item) × (ds ++ d ∷ [] ≡ e ∷ es))
some-items [] d = (d, ([], refl))
some-items (c ∷ ds) d = (c, (ds ++ d ∷ [], refl))

-- data that some trees mean have a first one
pub means-some : (number : Numbers) (p : Place) (ts : Trees) (ds : Seq Item) → IsSomeTree ts → MeansAll number p ts ds
    → (e : Item) × ((es : Seq Item) × (ds ≡ e ∷ es))
unfolding MeansAll
means-some number p no_tree ds s m = absurd s
means-some number p (then_tree ts g t) ds s m =
    let f = some-items m.0 m.1.0 in (f.0, (f.1.0, m.1.1.2 ∙ f.1.1))

-- the dot is taken
pub dot-taken : (s : LexemeState) (p : Place) (r : Seq ℕ) (q : Place) (ds : Seq Item) (os : Seq Pending)
    → (e : Item) × ((es : Seq Item) × (ds ≡ e ∷ es))
    → dot_step s p r (InList q ds ∷ os) ≡ next (record s { pending = AtDot q ds p ∷ os })
dot-taken s p r q ds os f = rw (f.1.1) refl

mutual
  unfolding spelled spelled_all behind behind_all Stands StandsAll Means MeansAll put_in

  -- from in front of a gap and a tree to behind its datum
  pub tree-steps : (number : Numbers) (t : Tree) (g r : Seq ℕ) (p : Place) (done : Seq Item) (os : Seq Pending) (d : Item)
      → Gap g (spelled t r) → Stands (length os) t r → Means number (place_behind p g) t d → full_dot os ≡ None
      → LexemeSteps number (state (g ++ spelled t r) p done os) (put_in r (behind (place_behind p g) t) done os d)
  tree-steps number (atom b a) g r p done os d k s m f =
      one-step number _ _
      (step-gap number g (b ++ r) p done os k ∙ step-atom number b r (place_behind p g) done os a s
      ∙ rw (f, m.1.0, m.1.1) refl)
  tree-steps number (proper ts h) g r p done os d k s m f =
      let q = place_behind p g in
      let inside = a_list q done os in
      let inner = place_behind q (40 ∷ []) in
      steps-then number _ (holding inside (spelled_all ts (h ++ 41 ∷ r)) inner []) _
      (one-step number _ _
      (step-gap number g (40 ∷ spelled_all ts (h ++ 41 ∷ r)) p done os k
      ∙ step-opening number List (spelled_all ts (h ++ 41 ∷ r)) q done os tt
      ∙ opens number _ q _ List s.0 f))
      (more _ (holding inside (h ++ 41 ∷ r) (behind_all inner ts) m.0) _
      (trees-steps number ts inside (h ++ 41 ∷ r) inner m.0 s.1 m.1.0)
      (step-gap number h (41 ∷ r) (behind_all inner ts) done (InList q m.0 ∷ os) s.2
      ∙ step-close number r (place_behind (behind_all inner ts) h) done (InList q m.0 ∷ os)
      ∙ ap (λ e. next (put_in r (place_behind (place_behind (behind_all inner ts) h) (41 ∷ [])) done os e)) (sym m.1.1)))
  tree-steps number (row ts h) g r p done os d k s m f =
      let q = place_behind p g in
      let inside = a_vector q done os in
      let inner = place_behind q (35 ∷ 40 ∷ []) in
      steps-then number _ (holding inside (spelled_all ts (h ++ 41 ∷ r)) inner []) _
      (one-step number _ _
      (step-gap number g (35 ∷ 40 ∷ spelled_all ts (h ++ 41 ∷ r)) p done os k
      ∙ step-opening number Vector (spelled_all ts (h ++ 41 ∷ r)) q done os tt
      ∙ opens number _ q _ Vector s.0 f))
      (more _ (holding inside (h ++ 41 ∷ r) (behind_all inner ts) m.0) _
      (trees-steps number ts inside (h ++ 41 ∷ r) inner m.0 s.1 m.1.0)
      (step-gap number h (41 ∷ r) (behind_all inner ts) done (InVector q m.0 ∷ os) s.2
      ∙ step-close number r (place_behind (behind_all inner ts) h) done (InVector q m.0 ∷ os)
      ∙ ap (λ e. next (put_in r (place_behind (place_behind (behind_all inner ts) h) (41 ∷ [])) done os e)) (sym m.1.1)))
  tree-steps number (improper ts h i t j) g r p done os d k s m f =
      let q = place_behind p g in
      let inside = a_list q done os in
      let inner = place_behind q (40 ∷ []) in
      let tail = spelled t (j ++ 41 ∷ r) in
      let before_dot = place_behind (behind_all inner ts) h in
      let after_dot = place_behind before_dot (46 ∷ []) in
      let after_tail = behind (place_behind after_dot i) t in
      steps-then number _ (holding inside (spelled_all ts (h ++ 46 ∷ (i ++ tail))) inner []) _
      (one-step number _ _
      (step-gap number g (40 ∷ spelled_all ts (h ++ 46 ∷ (i ++ tail))) p done os k
      ∙ step-opening number List (spelled_all ts (h ++ 46 ∷ (i ++ tail))) q done os tt
      ∙ opens number _ q _ List s.0 f))
      (steps-then number _ (state (i ++ tail) after_dot done (AtDot q m.0 before_dot ∷ os)) _
      (more _ (holding inside (h ++ 46 ∷ (i ++ tail)) (behind_all inner ts) m.0) _
      (trees-steps number ts inside (h ++ 46 ∷ (i ++ tail)) inner m.0 s.2 m.1.1.0)
      (step-gap number h (46 ∷ (i ++ tail)) (behind_all inner ts) done (InList q m.0 ∷ os) s.3
      ∙ step-dot number (i ++ tail) before_dot done (InList q m.0 ∷ os) s.4
      ∙ dot-taken (state (i ++ tail) after_dot done (InList q m.0 ∷ os)) before_dot (46 ∷ (i ++ tail)) q m.0 os (means-some number inner ts m.0 s.1 m.1.1.0)))
      (more _ (state (j ++ 41 ∷ r) after_tail done (AtTail q m.0 before_dot m.1.0 ∷ os)) _
      (tree-steps number t i (j ++ 41 ∷ r) after_dot done (AtDot q m.0 before_dot ∷ os) m.1.0 s.5 s.6 m.1.1.1 refl)
      (step-gap number j (41 ∷ r) after_tail done (AtTail q m.0 before_dot m.1.0 ∷ os) s.7
      ∙ step-close number r (place_behind after_tail j) done (AtTail q m.0 before_dot m.1.0 ∷ os)
      ∙ ap (λ e. next (put_in r (place_behind (place_behind after_tail j) (41 ∷ [])) done os e)) (sym m.1.1.2))))
  tree-steps number (prefixed x h t) g r p done os d k s m f =
      let q = place_behind p g in
      let inner = place_behind q (prefix_bytes x) in
      subst (λ e. LexemeSteps number (state (g ++ (prefix_bytes x ++ (h ++ spelled t r))) p done os) (put_in r (behind (place_behind inner h) t) done os e)) (sym m.1.1.2)
      (steps-then number _ (state (h ++ spelled t r) inner done (AtPrefix q (record { 0 = m.0 }) ∷ os)) _
      (one-step number _ _
      (step-gap number g (prefix_bytes x ++ (h ++ spelled t r)) p done os k
      ∙ step-opening number (Before x) (h ++ spelled t r) q done os s.1
      ∙ opens number _ q _ (Before x) s.0 f
      ∙ rw (m.1.1.0) refl))
      (tree-steps number t h r inner done (AtPrefix q (record { 0 = m.0 }) ∷ os) m.1.0 s.2 s.3 m.1.1.1 refl))

  -- from in front of trees to behind their data
  pub trees-steps : (number : Numbers) (ts : Trees) (h : Holder) (r : Seq ℕ) (p : Place) (ds : Seq Item)
      → StandsAll (depth_of h) ts r → MeansAll number p ts ds
      → LexemeSteps number (holding h (spelled_all ts r) p []) (holding h r (behind_all p ts) ds)
  trees-steps number no_tree h r p ds s m =
      subst (λ es. LexemeSteps number (holding h r p []) (holding h r p es)) (sym m) (none (holding h r p []))
  trees-steps number (then_tree ts g t) h r p ds s m =
      let q = behind_all p ts in
      let b = behind (place_behind q g) t in
      let at_depth : Stands (length (held_pending h m.0)) t r =
      subst (λ n. Stands n t r) (sym (held-depth h m.0)) s.2 in
      let one : LexemeSteps number (state (g ++ spelled t r) q (held_done h m.0) (held_pending h m.0)) (put_in r b (held_done h m.0) (held_pending h m.0) m.1.0) =
      tree-steps number t g r q (held_done h m.0) (held_pending h m.0) m.1.0 s.1 at_depth m.1.1.1 (held-open h m.0) in
      let from : LexemeSteps number (holding h (g ++ spelled t r) q m.0) (put_in r b (held_done h m.0) (held_pending h m.0) m.1.0) =
      subst (λ u. LexemeSteps number u (put_in r b (held_done h m.0) (held_pending h m.0) m.1.0)) (sym (holding-parts h (g ++ spelled t r) q m.0)) one in
      let to : LexemeSteps number (holding h (g ++ spelled t r) q m.0) (holding h r b (m.0 ++ m.1.0 ∷ [])) =
      subst (λ u. LexemeSteps number (holding h (g ++ spelled t r) q m.0) u) (held-put h r b m.0 m.1.0) from in
      steps-then number _ (holding h (g ++ spelled t r) q m.0) _
      (trees-steps number ts h (g ++ spelled t r) p m.0 s.0 m.1.1.0)
      (subst (λ es. LexemeSteps number (holding h (g ++ spelled t r) q m.0) (holding h r b es)) (sym m.1.1.2) to)
