-- What is known of a choice at lines of a program: facts as tests, the line with its step, where it gives its word.
use Rattle.std.proofs.Common.{◌≡◌, ◌≢◌, ℕ, zero, suc, ◌+◌, ◌<◌, Bool, true, false, ◌&&◌, ◌||◌, List, [], ◌∷◌, length, Option, Some, None, refl, sym, ap, subst, ◌∙◌, arith, eqb-true, eq-eqb}
use Rattle.std.specs.Prelude.{◌==◌, slice_get}
use Rattle.mid_lines.proofs.Conjunctions.{front_true, back_true, both_true}
use Rattle.mid_lines.specs.declared.line.Line.{Line}
use Rattle.mid_lines.specs.declared.line.LineProcedure.{LineProcedure}
use Rattle.mid_lines.specs.declared.line.LineProgram.{LineProgram}
use Rattle.mid_lines.specs.Lines.{lines_in, line_of}
use Rattle.back_places.specs.declared.place.Place.{Place}
use Rattle.back_places.specs.declared.place.Place.TheVariants.{InRegister, InSlot, AsConstant}
use Rattle.back_places.specs.Places.{Located}
use Rattle.back_places.specs.StepLaw.{Known}
use Rattle.back_trivial.specs.OwnSlots.{is_there}
use Rattle.back_allocation.specs.LineSteps.{step_of, steps_from}
use Rattle.back_liveness.proofs.Lists.{or_back}
use Rattle.back_allocation.specs.Names.{IsNaming}
use Rattle.back_allocation.specs.Allocated.{Choice, is_same_place, any_below, has_name, is_chosen, IsAllocated}

same_told : (p q : Place) → is_same_place p q ≡ true → p ≡ q
same_told (InRegister r) (InRegister q) h = ap InRegister (eqb-true r q h)
same_told (InRegister r) (InSlot k) h = absurd (cc h)
same_told (InRegister r) (AsConstant w) h = absurd (cc h)
same_told (InSlot k) (InRegister q) h = absurd (cc h)
same_told (InSlot k) (InSlot j) h = ap InSlot (eqb-true k j h)
same_told (InSlot k) (AsConstant w) h = absurd (cc h)
same_told (AsConstant w) (InRegister q) h = absurd (cc h)
same_told (AsConstant w) (InSlot j) h = absurd (cc h)
same_told (AsConstant w) (AsConstant u) h = ap AsConstant (eqb-true w u h)

same_self : (p : Place) → is_same_place p p ≡ true
same_self (InRegister r) = eq-eqb r r refl
same_self (InSlot k) = eq-eqb k k refl
same_self (AsConstant w) = eq-eqb w w refl

told_by :
    (count : ℕ) (test : ℕ → Bool) → any_below (suc count) test ≡ true
    → (any_below count test ≡ true → (w : ℕ) × (w < count) × (test w ≡ true)) → (b : Bool) → test count ≡ b
    → (w : ℕ) × (w < suc count) × (test w ≡ true)
told_by count test h later true e = (count, omega arith, e)
told_by count test h later false e =
    let more = later (subst (λ b. (b || any_below count test) ≡ true) e h) in (more.0, omega (arith, more.1), more.2)

-- a test that tells one of the first numbers tells some
below_told : (count : ℕ) (test : ℕ → Bool) → any_below count test ≡ true → (w : ℕ) × (w < count) × (test w ≡ true)
below_told zero test h = absurd (cc h)
below_told (suc count) test h = told_by count test h (λ k. below_told count test k) (test count) refl

tells_by :
    (count : ℕ) (test : ℕ → Bool) (w : ℕ) → test w ≡ true → (w < count → any_below count test ≡ true) → w < suc count → (b : Bool) → (w == count) ≡ b
    → any_below (suc count) test ≡ true
tells_by count test w e later h true q =
    let same : w ≡ count = eqb-true w count q in
    ap (λ b. b || any_below count test) (ap test (sym same) ∙ e)
tells_by count test w e later h false q =
    let ne : w ≢ count = λ k. absurd (cc (q, eq-eqb w count k)) in
    or_back (test count) (any_below count test) (later (omega (arith, h, ne)))

below_tells : (count : ℕ) (test : ℕ → Bool) (w : ℕ) → w < count → test w ≡ true → any_below count test ≡ true
below_tells zero test w h e = absurd (omega (arith, h))
below_tells (suc count) test w h e = tells_by count test w e (λ k. below_tells count test w k e) h (w == count) refl

-- a name of a register may be alive at a line of a procedure that is there, and this is its place
pub record Stands (program : LineProgram) (c : Choice) (number line v : ℕ) (p : Place) : Type 0 where
  pub procedure : LineProcedure
  pub there : slice_get program.procedures number ≡ Some procedure
  pub name : ℕ
  pub below : name < c.names number
  pub owner_is : c.owner number name ≡ v
  pub alive : c.alive number name line ≡ true
  pub place_is : p ≡ c.spot number name

pub told : (program : LineProgram) (c : Choice) (number line v : ℕ) (p : Place) → Known (is_chosen program c) number line v p → Stands program c number line v p
told program c number line v p h = by (slice_get program.procedures number) refl
  where
    rest : any_below (c.names number) (has_name c number line v p) ≡ true
    rest = back_true (is_there (slice_get program.procedures number)) _ h

    one : (w : ℕ) × (w < c.names number) × (has_name c number line v p w ≡ true)
    one = below_told (c.names number) (has_name c number line v p) rest

    placed : (c.alive number one.0 line && is_same_place p (c.spot number one.0)) ≡ true
    placed = back_true (c.owner number one.0 == v) _ one.2

    by : (o : Option LineProcedure) → slice_get program.procedures number ≡ o → Stands program c number line v p
    by None e = absurd (cc (sym (ap is_there e) ∙ front_true (is_there (slice_get program.procedures number)) _ h))
    by (Some q) e = record {
      procedure = q;
      there = e;
      name = one.0;
      below = one.1;
      owner_is = eqb-true (c.owner number one.0) v (front_true (c.owner number one.0 == v) _ one.2);
      alive = front_true (c.alive number one.0 line) _ placed;
      place_is = same_told p (c.spot number one.0) (back_true (c.alive number one.0 line) _ placed);
    }

pub tells :
    (program : LineProgram) (c : Choice) (number line v w : ℕ) (p : Place) (q : LineProcedure) → slice_get program.procedures number ≡ Some q
    → w < c.names number → c.owner number w ≡ v → c.alive number w line ≡ true → p ≡ c.spot number w → Known (is_chosen program c) number line v p
tells program c number line v w p q there below owner alive e =
    both_true (is_there (slice_get program.procedures number)) _ (ap is_there there)
    (below_tells (c.names number) (has_name c number line v p) w below
    (both_true (c.owner number w == v) _ (eq-eqb (c.owner number w) v owner)
    (both_true (c.alive number w line) _ alive (subst (λ r. is_same_place p r ≡ true) e (same_self p)))))

-- a line that is there, in its procedure, and the line with names
pub record At (program : LineProgram) (c : Choice) (number line : ℕ) (x : Line) : Type 0 where
  pub procedure : LineProcedure
  pub there : slice_get program.procedures number ≡ Some procedure
  pub line_is : line_of program number line ≡ Some x
  pub named : Line
  pub at : slice_get (c.lines number) line ≡ Some named
  pub naming : IsNaming (c.owner number) (c.names number) x named

there_too : {X Y : Type 0} (xs : List X) (ys : List Y) (i : ℕ) (x : X) → length ys ≡ length xs → slice_get xs i ≡ Some x → (y : Y) × (slice_get ys i ≡ Some y)
there_too [] ys i x e h = absurd (cc h)
there_too (x ∷ xs) [] i z e h = absurd (omega (arith, e))
there_too (x ∷ xs) (y ∷ ys) zero z e h = (y, refl)
there_too (x ∷ xs) (y ∷ ys) (suc i) z e h = there_too xs ys i z (omega (arith, e)) h

pub at_line :
    (program : LineProgram) (l : Located) (c : Choice) (t : IsAllocated program l c) (number line : ℕ) (x : Line) → line_of program number line ≡ Some x
    → At program c number line x
at_line program l c t number line x e = by (slice_get program.procedures number) refl
  where
    by : (o : Option LineProcedure) → slice_get program.procedures number ≡ o → At program c number line x
    by None h = absurd (cc (sym (ap (λ u. slice_get (lines_in u) line) h) ∙ e))
    by (Some p) h =
        let at : slice_get p.lines line ≡ Some x = sym (ap (λ u. slice_get (lines_in u) line) h) ∙ e in
        let named = t.named number p h in
        let y = there_too p.lines (c.lines number) line x named.count at in
        record { procedure = p; there = h; line_is = e; named = y.0; at = y.1; naming = named.each line x y.0 at y.1 }

-- its step
step_at :
    (landings : ℕ → List ℕ) (from k : ℕ) (lines : List Line) (x : Line) → slice_get lines k ≡ Some x
    → slice_get (steps_from landings from lines) k ≡ Some (step_of (landings (from + k)) x)
step_at landings from k [] x h = absurd (cc h)
step_at landings from zero (y ∷ lines) x h =
    let e : from ≡ from + 0 = omega arith in
    let q : y ≡ x = cc h in
    ap (λ z. Some (step_of (landings from) z)) q ∙ ap (λ n. Some (step_of (landings n) x)) e
step_at landings from (suc k) (y ∷ lines) x h =
    let e : from + 1 + k ≡ from + suc k = omega arith in
    step_at landings (from + 1) k lines x h ∙ ap (λ n. Some (step_of (landings n) x)) e

pub step_there :
    (landings : ℕ → List ℕ) (k : ℕ) (lines : List Line) (x : Line) → slice_get lines k ≡ Some x
    → slice_get (steps_from landings 0 lines) k ≡ Some (step_of (landings k) x)
step_there landings k lines x h = let e : 0 + k ≡ k = omega arith in step_at landings 0 k lines x h ∙ ap (λ n. Some (step_of (landings n) x)) e
