-- Wherever the machine comes, it has gone through an open front of the grammar.
use Rattle.std.proofs.Common.{◌≡◌, ℕ, ◌<◌, Bool, true, false, nat_le, List as Seq, [], ◌∷◌, ◌++◌, length, take, drop, Option, Some, None, refl, sym, ap, subst, ◌∙◌, arith, if◌then◌else◌}
use Rattle.std.proofs.lemmas.List.{take-append-drop}
use Rattle.std.proofs.Math.Seq.{drop-append_seam, take-append_seam}
use Rattle.base.specs.declared.reason.Reason.TheVariants.{NestTooDeep}
use Rattle.std.proofs.lemmas.Bool.{leb-false}
use Rattle.base.specs.declared.place.Place.{Place}
use Rattle.base.specs.Data.{Item, item, Content, vector, items_of}
use Rattle.front_reader.specs.declared.opening.Opening.{Opening}
use Rattle.front_reader.specs.declared.opening.Opening.TheVariants.{List, Vector, Before}
use Rattle.front_reader.specs.declared.lexeme.Lexeme.{Lexeme}
use Rattle.front_reader.specs.declared.lexeme.Lexeme.TheVariants.{Close, Dot, Open, Integer, Character, Token, Bar, Text}
use Rattle.front_reader.specs.declared.lexeme.Lexed.{Lexed}
use Rattle.front_reader.specs.declared.lexeme.Lexed.TheVariants.{Taken, Fault}
use Rattle.front_reader.specs.declared.gap.Mode.TheVariants.{Between}
use Rattle.front_reader.specs.declared.gap.Skipped.{Skipped}
use Rattle.front_reader.specs.declared.gap.Skipped.TheVariants.{Ends, OpenFrom}
use Rattle.front_reader.specs.declared.pending.Pending.{Pending}
use Rattle.front_reader.specs.declared.pending.Pending.TheVariants.{InList, AtDot, InVector, AtPrefix}
use Rattle.front_reader.specs.Characters.{begins, is_token, place_behind}
use Rattle.front_reader.specs.Gaps.{Gap}
use Rattle.front_reader.specs.Atoms.{Atom, Spells}
use Rattle.front_reader.specs.Trees.{Tree, atom, proper, improper, row, prefixed, Trees, no_tree, then_tree, prefix_bytes, spelled, spelled_all, behind, behind_all, Stands, StandsAll, IsSomeTree}
use Rattle.front_reader.specs.Meanings.{atom_content, prefix_name, list_content, joined, prefix_item, Means, MeansAll}
use Rattle.front_reader.specs.Fronts.{Level, in_list, at_dot, at_tail, in_vector, at_prefix, dot_after, levels_spelled, levels_behind, StandsLevels, TakesMore}
use Rattle.front_reader.specs.bridge.Lexemes.{skip, lex, atom_of}
use Rattle.front_reader.specs.bridge.Machine.{LexemeState, stopped, LexemeStep, next, over, put_in, full_dot, ending, closing, dot_step, prefix_step, opened, unless_full, opening_step, content_step, atom_step, act, by_lexed, by_rest, by_gap, step, LexemeSteps, none, more}
use Rattle.front_reader.proofs.Lexing.{spells-lexes, close-lexes, dot-lexes, open-lexes, opening_bytes, OpeningEnds}
use Rattle.front_reader.proofs.Skips.{skip-ends}
use Rattle.front_reader.proofs.Stepping.{Numbers, state}
use Rattle.front_reader.proofs.Fronting.{Held, held-length}

-- the text up to the state is a front with these data, where the gap behind it is still left
pub record Fronted (number : Numbers) (text : Seq ℕ) (p : Place) (r : Seq ℕ) (q : Place) (done : Seq Item) (os : Seq Pending) : Type 0 where
  pub trees : Trees
  pub levels : Seq Level
  pub spells : text ≡ levels_spelled trees levels r
  pub stands : StandsLevels trees levels r
  pub place : q ≡ levels_behind p trees levels
  pub held : Held number p trees levels done os

abbrev pub FrontedState : Numbers → Seq ℕ → Place → LexemeState → Type 0
FrontedState number text p s = Fronted number text p s.rest s.place s.done s.pending

-- before the first byte
pub fronted-start : (number : Numbers) (text : Seq ℕ) (p : Place) → FrontedState number text p (state text p [] [])
unfolding spelled_all StandsAll behind_all MeansAll
fronted-start number text p =
    record { trees = no_tree; levels = []; spells = refl; stands = tt; place = refl; held = (refl, refl) }

-- the front takes more where no dot is full
pub takes-held : (number : Numbers) (p : Place) (ts : Trees) (ls : Seq Level) (done : Seq Item) (os : Seq Pending)
    → Held number p ts ls done os → full_dot os ≡ None → TakesMore ls
takes-held number p ts [] done os h k = tt
takes-held number p ts (in_list g us ∷ ls) done os h k = tt
takes-held number p ts (at_dot g us j ∷ ls) done os h k = tt
takes-held number p ts (at_tail g us j i t ∷ ls) done os h k =
    let e : Some (dot_after (levels_behind p ts ls) g us j) ≡ None = sym (ap full_dot h.1.1.1.0) ∙ k in absurd (cc)
takes-held number p ts (in_vector g us ∷ ls) done os h k = tt
takes-held number p ts (at_prefix g x ∷ ls) done os h k = tt

-- a whole datum joins the front
pub joins : (number : Numbers) (text : Seq ℕ) (p : Place) (ts : Trees) (ls : Seq Level) (g : Seq ℕ) (t : Tree) (r : Seq ℕ)
    (d : Item) (done : Seq Item) (os : Seq Pending)
    → text ≡ levels_spelled ts ls (g ++ spelled t r) → StandsLevels ts ls (g ++ spelled t r) → Held number p ts ls done os
    → TakesMore ls → Gap g (spelled t r) → Stands (length ls) t r
    → Means number (place_behind (levels_behind p ts ls) g) t d
    → FrontedState number text p (put_in r (behind (place_behind (levels_behind p ts ls) g) t) done os d)
unfolding spelled spelled_all behind behind_all Stands StandsAll Means MeansAll put_in
joins number text p ts [] g t r d done os e s h k gap stands means =
    rw (h.1) (record {
      trees = then_tree ts g t;
      levels = [];
      spells = e;
      stands = (s, gap, stands);
      place = refl;
      held = ((done, (d, (h.0, means, refl))), refl);
    })
joins number text p ts (in_list i us ∷ ls) g t r d done os e s h k gap stands means =
    rw (h.1.1.0) (record {
      trees = ts;
      levels = in_list i (then_tree us g t) ∷ ls;
      spells = e;
      stands = (s.0, s.1, s.2, (s.3.0, (s.3.1, gap, stands)));
      place = refl;
      held = (h.0 ++ d ∷ [], (h.1.0, (refl, (h.0, (d, (h.1.1.1, means, refl))), h.1.1.2)));
    })
joins number text p ts (in_vector i us ∷ ls) g t r d done os e s h k gap stands means =
    rw (h.1.1.0) (record {
      trees = ts;
      levels = in_vector i (then_tree us g t) ∷ ls;
      spells = e;
      stands = (s.0, s.1, s.2, (s.3.0, (s.3.1, gap, stands)));
      place = refl;
      held = (h.0 ++ d ∷ [], (h.1.0, (refl, (h.0, (d, (h.1.1.1, means, refl))), h.1.1.2)));
    })
joins number text p ts (at_dot i us j ∷ ls) g t r d done os e s h k gap stands means =
    rw (h.1.1.0) (record {
      trees = ts;
      levels = at_tail i us j g t ∷ ls;
      spells = e;
      stands = (s.0, s.1, s.2, (s.3.0, s.3.1, s.3.2, s.3.3, s.3.4, gap, stands));
      place = refl;
      held = (h.0, (h.1.0, (d, (refl, h.1.1.1, h.1.1.2, means))));
    })
joins number text p ts (at_tail i us j u v ∷ ls) g t r d done os e s h k gap stands means = absurd k
joins number text p ts (at_prefix i x ∷ ls) g t r d done os e s h k gap stands means =
    rw (h.1.1.0) (joins number text p ts ls i (prefixed x g t) r
    (prefix_item (place_behind (levels_behind p ts ls) i) h.0 d) done h.1.0 e s.0 h.1.1.2 s.2 s.3.0
    (s.1, s.3.1, gap, stands) (h.0, (d, (h.1.1.1, means, refl))))

-- a `)`
closed : (number : Numbers) (text : Seq ℕ) (p : Place) (ts : Trees) (ls : Seq Level) (g r : Seq ℕ)
    (q : Place) (done : Seq Item) (os : Seq Pending) (all : Seq ℕ) (u : LexemeState)
    → text ≡ levels_spelled ts ls (g ++ 41 ∷ r) → StandsLevels ts ls (g ++ 41 ∷ r) → Held number p ts ls done os
    → Gap g (41 ∷ r) → q ≡ place_behind (levels_behind p ts ls) g
    → closing (state r (place_behind q (41 ∷ [])) done os) q all os ≡ next u → FrontedState number text p u
unfolding spelled spelled_all behind behind_all Stands StandsAll Means MeansAll
closed number text p ts [] g r q done os all u e s h gap at k =
    let f = ap (closing (state r (place_behind q (41 ∷ [])) done os) q all) h.1 in absurd (cc)
closed number text p ts (at_dot i us j ∷ ls) g r q done os all u e s h gap at k =
    let f = ap (closing (state r (place_behind q (41 ∷ [])) done os) q all) h.1.1.0 in absurd (cc)
closed number text p ts (at_prefix i x ∷ ls) g r q done os all u e s h gap at k =
    let f = ap (closing (state r (place_behind q (41 ∷ [])) done os) q all) h.1.1.0 in absurd (cc)
closed number text p ts (in_list i us ∷ ls) g r q done os all u e s h gap at k =
    let start = place_behind (levels_behind p ts ls) i in
    let d = item start (list_content h.0) in
    let f = ap (closing (state r (place_behind q (41 ∷ [])) done os) q all) h.1.1.0 in
    let same : put_in r (place_behind q (41 ∷ [])) done h.1.0 d ≡ u = cc in
    subst (FrontedState number text p) same
    (rw at (joins number text p ts ls i (proper us g) r d done h.1.0 e s.0 h.1.1.2 s.2 s.3.0 (s.1, s.3.1, gap)
    (h.0, (h.1.1.1, refl))))
closed number text p ts (in_vector i us ∷ ls) g r q done os all u e s h gap at k =
    let start = place_behind (levels_behind p ts ls) i in
    let d = item start (vector (items_of h.0)) in
    let f = ap (closing (state r (place_behind q (41 ∷ [])) done os) q all) h.1.1.0 in
    let same : put_in r (place_behind q (41 ∷ [])) done h.1.0 d ≡ u = cc in
    subst (FrontedState number text p) same
    (rw at (joins number text p ts ls i (row us g) r d done h.1.0 e s.0 h.1.1.2 s.2 s.3.0 (s.1, s.3.1, gap)
    (h.0, (h.1.1.1, refl))))
closed number text p ts (at_tail i us j k t ∷ ls) g r q done os all u e s h gap at c =
    let start = place_behind (levels_behind p ts ls) i in
    let d = item start (joined h.0 h.1.1.0) in
    let f = ap (closing (state r (place_behind q (41 ∷ [])) done os) q all) h.1.1.1.0 in
    let same : put_in r (place_behind q (41 ∷ [])) done h.1.0 d ≡ u = cc in
    subst (FrontedState number text p) same
    (rw at (joins number text p ts ls i (improper us j k t g) r d done h.1.0 e s.0 h.1.1.1.2 s.2 s.3.0
    (s.1, s.3.1, s.3.2, s.3.3, s.3.4, s.3.5, s.3.6, gap)
    (h.0, (h.1.1.0, (h.1.1.1.1, h.1.1.1.3, refl)))))

-- trees that mean some data are some
some-trees : (number : Numbers) (p : Place) (us : Trees) (d : Item) (ds : Seq Item) → MeansAll number p us (d ∷ ds) → IsSomeTree us
unfolding MeansAll
some-trees number p no_tree d ds m = absurd (cc)
some-trees number p (then_tree us g t) d ds m = tt

-- a dot
dotted_more : (number : Numbers) (text : Seq ℕ) (p : Place) (ts : Trees) (ls : Seq Level) (g r : Seq ℕ)
    (q : Place) (done : Seq Item) (os : Seq Pending) (all : Seq ℕ) (u : LexemeState)
    → text ≡ levels_spelled ts ls (g ++ 46 ∷ r) → StandsLevels ts ls (g ++ 46 ∷ r) → Held number p ts ls done os
    → Gap g (46 ∷ r) → q ≡ place_behind (levels_behind p ts ls) g → begins is_token r ≡ false
    → dot_step (state r (place_behind q (46 ∷ [])) done os) q all os ≡ next u → FrontedState number text p u
dotted_more number text p ts [] g r q done os all u e s h gap at b k =
    let f = ap (dot_step (state r (place_behind q (46 ∷ [])) done os) q all) h.1 in absurd (cc)
dotted_more number text p ts (at_dot i us j ∷ ls) g r q done os all u e s h gap at b k =
    let f = ap (dot_step (state r (place_behind q (46 ∷ [])) done os) q all) h.1.1.0 in absurd (cc)
dotted_more number text p ts (at_prefix i x ∷ ls) g r q done os all u e s h gap at b k =
    let f = ap (dot_step (state r (place_behind q (46 ∷ [])) done os) q all) h.1.1.0 in absurd (cc)
dotted_more number text p ts (in_vector i us ∷ ls) g r q done os all u e s h gap at b k =
    let f = ap (dot_step (state r (place_behind q (46 ∷ [])) done os) q all) h.1.1.0 in absurd (cc)
dotted_more number text p ts (at_tail i us j v t ∷ ls) g r q done os all u e s h gap at b k =
    let f = ap (dot_step (state r (place_behind q (46 ∷ [])) done os) q all) h.1.1.1.0 in absurd (cc)
dotted_more number text p ts (in_list i us ∷ ls) g r q done os all u e s h gap at b k =
    by h.0 h.1.1.0 h.1.1.1
  where
    by : (ds : Seq Item) → os ≡ InList (place_behind (levels_behind p ts ls) i) ds ∷ h.1.0
        → MeansAll number (place_behind (place_behind (levels_behind p ts ls) i) (40 ∷ [])) us ds → FrontedState number text p u
    by [] o m =
        let f = ap (dot_step (state r (place_behind q (46 ∷ [])) done os) q all) o in absurd (cc)
    by (d ∷ ds) o m =
        let f = ap (dot_step (state r (place_behind q (46 ∷ [])) done os) q all) o in
        let v = state r (place_behind q (46 ∷ [])) done (AtDot (place_behind (levels_behind p ts ls) i) (d ∷ ds) q ∷ h.1.0) in
        let same : v ≡ u = cc in
        subst (FrontedState number text p) same (record {
          trees = ts;
          levels = at_dot i us g ∷ ls;
          spells = e;
          stands = (s.0, s.1, s.2, (s.3.0, some-trees number _ us d ds m, s.3.1, gap, b));
          place = ap (λ x. place_behind x (46 ∷ [])) at;
          held = (d ∷ ds, (h.1.0, (ap (λ x. AtDot (place_behind (levels_behind p ts ls) i) (d ∷ ds) x ∷ h.1.0) at, m, h.1.1.2)));
        })

-- an opening
opened_more : (number : Numbers) (text : Seq ℕ) (p : Place) (ts : Trees) (ls : Seq Level) (g r : Seq ℕ) (o : Opening)
    (q : Place) (done : Seq Item) (os : Seq Pending) (all : Seq ℕ) (u : LexemeState)
    → text ≡ levels_spelled ts ls (g ++ (opening_bytes o ++ r)) → StandsLevels ts ls (g ++ (opening_bytes o ++ r))
    → Held number p ts ls done os → Gap g (opening_bytes o ++ r) → OpeningEnds o r
    → q ≡ place_behind (levels_behind p ts ls) g → length ls < 256 → TakesMore ls
    → opened number (state r (place_behind q (opening_bytes o)) done os) q o ≡ next u → FrontedState number text p u
unfolding spelled spelled_all behind behind_all Stands StandsAll Means MeansAll
opened_more number text p ts ls g r List q done os all u e s h gap ends at n takes k =
    let v = state r (place_behind q (40 ∷ [])) done (InList q [] ∷ os) in
    let same : v ≡ u = cc in
    subst (FrontedState number text p) same (record {
      trees = ts;
      levels = in_list g no_tree ∷ ls;
      spells = e;
      stands = (s, n, takes, (gap, tt));
      place = ap (λ x. place_behind x (40 ∷ [])) at;
      held = ([], (os, (ap (λ x. InList x [] ∷ os) at, refl, h)));
    })
opened_more number text p ts ls g r Vector q done os all u e s h gap ends at n takes k =
    let v = state r (place_behind q (35 ∷ 40 ∷ [])) done (InVector q [] ∷ os) in
    let same : v ≡ u = cc in
    subst (FrontedState number text p) same (record {
      trees = ts;
      levels = in_vector g no_tree ∷ ls;
      spells = e;
      stands = (s, n, takes, (gap, tt));
      place = ap (λ x. place_behind x (35 ∷ 40 ∷ [])) at;
      held = ([], (os, (ap (λ x. InVector x [] ∷ os) at, refl, h)));
    })
opened_more number text p ts ls g r (Before x) q done os all u e s h gap ends at n takes k =
    by (number (prefix_name x)) refl k
  where
    by : (m : Option ℕ) → number (prefix_name x) ≡ m
        → prefix_step (state r (place_behind q (prefix_bytes x)) done os) q m ≡ next u → FrontedState number text p u
    by None f k = absurd (cc)
    by (Some m) f k =
        let v = state r (place_behind q (prefix_bytes x)) done (AtPrefix q (record { 0 = m }) ∷ os) in
        let same : v ≡ u = cc in
        subst (FrontedState number text p) same (record {
          trees = ts;
          levels = at_prefix g x ∷ ls;
          spells = e;
          stands = (s, n, takes, (gap, ends));
          place = ap (λ y. place_behind y (prefix_bytes x)) at;
          held = (m, (os, (ap (λ y. AtPrefix y (record { 0 = m }) ∷ os) at, f, h)));
        })

-- what a choice that goes on says
unless-next : (o : Option Place) (r : Seq ℕ) (x : LexemeStep) (u : LexemeState) → unless_full o r x ≡ next u → (o ≡ None) × (x ≡ next u)
unless-next None r x u e = (refl, e)
unless-next (Some at) r x u e = absurd (cc)

opening-next : (number : Numbers) (s : LexemeState) (p : Place) (r : Seq ℕ) (o : Opening) (u : LexemeState) → opening_step number s p r o ≡ next u
    → (length s.pending < 256) × (full_dot s.pending ≡ None) × (opened number s p o ≡ next u)
opening-next number s p r o u e = by (nat_le 256 (length s.pending)) refl e
  where
    by : (b : Bool) → nat_le 256 (length s.pending) ≡ b
        → (if b then over (stopped p NestTooDeep r) else unless_full (full_dot s.pending) r (opened number s p o)) ≡ next u
        → (length s.pending < 256) × (full_dot s.pending ≡ None) × (opened number s p o ≡ next u)
    by true f e = absurd (cc)
    by false f e =
        let k = unless-next (full_dot s.pending) r (opened number s p o) u e in
        (leb-false 256 (length s.pending) f, k.0, k.1)

-- an atom
atom_more : (number : Numbers) (text : Seq ℕ) (p : Place) (ts : Trees) (ls : Seq Level) (g w r : Seq ℕ) (a : Atom)
    (q : Place) (done : Seq Item) (os : Seq Pending) (all : Seq ℕ) (u : LexemeState)
    → text ≡ levels_spelled ts ls (g ++ (w ++ r)) → StandsLevels ts ls (g ++ (w ++ r))
    → Held number p ts ls done os → Gap g (w ++ r) → Spells w r a
    → q ≡ place_behind (levels_behind p ts ls) g
    → atom_step number (state r (place_behind q w) done os) q all (Some a) ≡ next u → FrontedState number text p u
unfolding spelled behind Stands Means
atom_more number text p ts ls g w r a q done os all u e s h gap spells at k =
    let f = unless-next (full_dot os) all (content_step (state r (place_behind q w) done os) q (atom_content number a)) u k in
    by (atom_content number a) refl (takes-held number p ts ls done os h f.0) f.1
  where
    by : (c : Option Content) → atom_content number a ≡ c → TakesMore ls
        → content_step (state r (place_behind q w) done os) q c ≡ next u → FrontedState number text p u
    by None i takes j = absurd (cc)
    by (Some c) i takes j =
        let same : put_in r (place_behind q w) done os (item q c) ≡ u = cc in
        subst (FrontedState number text p) same
        (rw at (joins number text p ts ls g (atom w a) r (item (place_behind (levels_behind p ts ls) g) c) done os e s h takes gap spells
        (c, (i, refl))))

-- a lexeme that spells an atom
act-atom-more : (number : Numbers) (text : Seq ℕ) (p : Place) (ts : Trees) (ls : Seq Level) (g after : Seq ℕ) (n : ℕ) (x : Lexeme)
    (a : Option Atom) (q : Place) (done : Seq Item) (os : Seq Pending) (u : LexemeState)
    → text ≡ levels_spelled ts ls (g ++ after) → StandsLevels ts ls (g ++ after)
    → Held number p ts ls done os → Gap g after → q ≡ place_behind (levels_behind p ts ls) g
    → lex after ≡ Taken n x → atom_of x (take n after) ≡ a
    → atom_step number (state (drop n after) (place_behind q (take n after)) done os) q after a ≡ next u
    → FrontedState number text p u
act-atom-more number text p ts ls g after n x None q done os u e s h gap at l m k = absurd (cc)
act-atom-more number text p ts ls g after n x (Some a) q done os u e s h gap at l m k =
    let join = take-append-drop n after in
    let T : Seq ℕ → Type 0 = λ all. text ≡ levels_spelled ts ls (g ++ all) in
    let S : Seq ℕ → Type 0 = λ all. StandsLevels ts ls (g ++ all) in
    atom_more number text p ts ls g (take n after) (drop n after) a q done os after u
    (subst T (sym join) e) (subst S (sym join) s) h (subst (Gap g) (sym join) gap) (spells-lexes after n x a l m) at k

-- a lexeme
act-more : (number : Numbers) (text : Seq ℕ) (p : Place) (ts : Trees) (ls : Seq Level) (g after : Seq ℕ) (n : ℕ) (x : Lexeme)
    (q : Place) (done : Seq Item) (os : Seq Pending) (u : LexemeState)
    → text ≡ levels_spelled ts ls (g ++ after) → StandsLevels ts ls (g ++ after)
    → Held number p ts ls done os → Gap g after → q ≡ place_behind (levels_behind p ts ls) g
    → lex after ≡ Taken n x
    → act number (state (drop n after) (place_behind q (take n after)) done os) q after (take n after) x ≡ next u
    → FrontedState number text p u
act-more number text p ts ls g after n (Integer i) q done os u e s h gap at l k =
    act-atom-more number text p ts ls g after n (Integer i) _ q done os u e s h gap at l refl k
act-more number text p ts ls g after n (Character i) q done os u e s h gap at l k =
    act-atom-more number text p ts ls g after n (Character i) _ q done os u e s h gap at l refl k
act-more number text p ts ls g after n Token q done os u e s h gap at l k =
    act-atom-more number text p ts ls g after n Token _ q done os u e s h gap at l refl k
act-more number text p ts ls g after n Bar q done os u e s h gap at l k =
    act-atom-more number text p ts ls g after n Bar _ q done os u e s h gap at l refl k
act-more number text p ts ls g after n Text q done os u e s h gap at l k =
    act-atom-more number text p ts ls g after n Text _ q done os u e s h gap at l refl k
act-more number text p ts ls g after n Close q done os u e s h gap at l k =
    let c = close-lexes after n l in
    let T : Seq ℕ → Type 0 = λ all. text ≡ levels_spelled ts ls (g ++ all) in
    let S : Seq ℕ → Type 0 = λ all. StandsLevels ts ls (g ++ all) in
    let K : Seq ℕ → ℕ → Type 0 = λ all m. closing (state (drop m all) (place_behind q (take m all)) done os) q all os ≡ next u in
    closed number text p ts ls g c.0 q done os (41 ∷ c.0) u (subst T c.1.0 e) (subst S c.1.0 s) h (subst (Gap g) c.1.0 gap) at
    (subst (λ all. K all 1) c.1.0 (subst (K after) c.1.1 k))
act-more number text p ts ls g after n Dot q done os u e s h gap at l k =
    let c = dot-lexes after n l in
    let T : Seq ℕ → Type 0 = λ all. text ≡ levels_spelled ts ls (g ++ all) in
    let S : Seq ℕ → Type 0 = λ all. StandsLevels ts ls (g ++ all) in
    let K : Seq ℕ → ℕ → Type 0 = λ all m. dot_step (state (drop m all) (place_behind q (take m all)) done os) q all os ≡ next u in
    dotted_more number text p ts ls g c.0 q done os (46 ∷ c.0) u (subst T c.1.0 e) (subst S c.1.0 s) h (subst (Gap g) c.1.0 gap) at
    c.1.2 (subst (λ all. K all 1) c.1.0 (subst (K after) c.1.1 k))
act-more number text p ts ls g after n (Open o) q done os u e s h gap at l k =
    let c = open-lexes after n o l in
    let f = opening-next number (state (drop n after) (place_behind q (take n after)) done os) q after o u k in
    let T : Seq ℕ → Type 0 = λ all. text ≡ levels_spelled ts ls (g ++ all) in
    let S : Seq ℕ → Type 0 = λ all. StandsLevels ts ls (g ++ all) in
    let K : Seq ℕ → ℕ → Type 0 = λ all m. opened number (state (drop m all) (place_behind q (take m all)) done os) q o ≡ next u in
    let k2 : K (opening_bytes o ++ c.0) (length (opening_bytes o)) = subst (λ all. K all (length (opening_bytes o))) c.1.0 (subst (K after) c.1.1 f.2) in
    let k3 : opened number (state c.0 (place_behind q (opening_bytes o)) done os) q o ≡ next u =
    subst (λ w. opened number (state c.0 (place_behind q w) done os) q o ≡ next u) (take-append_seam (opening_bytes o) c.0)
    (subst (λ v. opened number (state v (place_behind q (take (length (opening_bytes o)) (opening_bytes o ++ c.0))) done os) q o ≡ next u) (drop-append_seam (opening_bytes o) c.0) k2) in
    opened_more number text p ts ls g c.0 o q done os after u (subst T c.1.0 e) (subst S c.1.0 s) h (subst (Gap g) c.1.0 gap)
    c.1.2 at (omega (arith, f.0, held-length number p ts ls done os h)) (takes-held number p ts ls done os h f.1) k3

-- a step
pub fronted-step : (number : Numbers) (text : Seq ℕ) (p : Place) (s u : LexemeState) → FrontedState number text p s
    → step number s ≡ next u → FrontedState number text p u
unfolding step by_gap by_rest by_lexed
fronted-step number text p s u f e = by (skip Between 0 0 s.rest) refl e
  where
    rests : (after : Seq ℕ) (g : Seq ℕ) → s.rest ≡ g ++ after → Gap g after
        → by_rest number (state after (place_behind s.place g) s.done s.pending) after ≡ next u → FrontedState number text p u
    rests [] g i gap k = absurd (ending-over s.done s.pending k)
      where
        ending-over : (done : Seq Item) (os : Seq Pending) → ending done os ≡ next u → ⊥
        ending-over done [] k = cc
        ending-over done (o ∷ os) k = cc
    rests (b ∷ bs) g i gap k = lexes (lex (b ∷ bs)) refl k
      where
        lexes : (l : Lexed) → lex (b ∷ bs) ≡ l → by_lexed number (state (b ∷ bs) (place_behind s.place g) s.done s.pending) l ≡ next u
            → FrontedState number text p u
        lexes (Fault m r) j k = absurd (cc)
        lexes (Taken n x) j k =
            act-more number text p f.trees f.levels g (b ∷ bs) n x (place_behind s.place g) s.done s.pending u
            (f.spells ∙ ap (levels_spelled f.trees f.levels) i) (subst (StandsLevels f.trees f.levels) i f.stands) f.held gap
            (ap (λ y. place_behind y g) f.place) j k

    by : (x : Skipped) → skip Between 0 0 s.rest ≡ x → by_gap number s x ≡ next u → FrontedState number text p u
    by (OpenFrom n) i k = absurd (cc)
    by (Ends n) i k =
        let a = skip-ends s.rest n i in
        let K : Seq ℕ → ℕ → Type 0 = λ all m. by_rest number (state (drop m all) (place_behind s.place (take m all)) s.done s.pending) (drop m all) ≡ next u in
        let k2 : K (a.gap ++ a.after) (length a.gap) = subst (λ all. K all (length a.gap)) a.front (subst (K s.rest) a.count k) in
        let L : Seq ℕ → Type 0 = λ v. by_rest number (state v (place_behind s.place (take (length a.gap) (a.gap ++ a.after))) s.done s.pending) v ≡ next u in
        let M : Seq ℕ → Type 0 = λ w. by_rest number (state a.after (place_behind s.place w) s.done s.pending) a.after ≡ next u in
        rests a.after a.gap a.front a.is_gap
        (subst M (take-append_seam a.gap a.after) (subst L (drop-append_seam a.gap a.after) k2))

-- steps
pub fronted-steps : (number : Numbers) (text : Seq ℕ) (p : Place) (s u : LexemeState) → FrontedState number text p s
    → LexemeSteps number s u → FrontedState number text p u
fronted-steps number text p s u f (none v) = f
fronted-steps number text p s u f (more v w x a e) =
    fronted-step number text p w x (fronted-steps number text p v w f a) e
