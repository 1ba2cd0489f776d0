-- Sites, exits without a name, exits that were made.
use Rattle.std.proofs.Common.{◌≡◌, ◌≤◌, ℕ, suc, List, [], ◌∷◌, subst, arith}
use Rattle.std.specs.Prelude.{◌<◌, ⊤}
use Rattle.lang_meaning.specs.Values.{Value}
use Rattle.lang_meaning.specs.State.{DynamicContext, Exit, at_site, Outcome, value, exit, full, more, Limit}
use Rattle.flat_language.specs.declared.program.FlatProgram.{FlatProgram}
use Rattle.flat_language.specs.FlatState.{FlatEnvironment, FlatState, FlatEvaluated}
use Rattle.flat_language.specs.FlatSignals.{FlatTask, nothing, form, turn, methods, signal}
use Rattle.flat_ends.specs.Leaving.{NamesOnly, TurnsOnly, at_level, applied, signalled, EndsAtSites, LawOfSites, IsOther, IsUnnamed, NotSought, NeverLeft, LawOfUnnamedExits, IsMade, CapturedAreMade, LawOfMadeExits}
use Rattle.flat_ends.proofs.Combined.{Named, Kept, Hidden, Going, Comes}
use Rattle.flat_ends.proofs.Applied.{value_applies, signals}
use Rattle.flat_ends.proofs.Runs.{levels, levels_below}

-- an application at a level
pub application_comes : {R : ℕ → Type 0} {C : Type 0} {floor : ℕ} (names : List (List ℕ)) (program : FlatProgram) (limit : Limit) → (R 0 → ⊥) → (k : ℕ)
    (around : DynamicContext) (z : FlatState) → Hidden R around.exits → Kept R C floor z → (f : Value) (vs : List Value)
    → Comes R C floor (applied names program limit k f vs around z)
application_comes names program limit none k around z hidden h f vs =
    let w = levels_below names program limit (λ r. absurd (none r)) k in
    value_applies (at_level names program limit k) w (signal (at_level names program limit k)) (signals (at_level names program limit k) w) f vs around hidden z h

-- a signal at a level
pub signal_comes : {R : ℕ → Type 0} {C : Type 0} {floor : ℕ} (names : List (List ℕ)) (program : FlatProgram) (limit : Limit) → (R 0 → ⊥) → (k : ℕ)
    (around : DynamicContext) (z : FlatState) → Hidden R around.exits → Kept R C floor z → (class : ℕ) (slots : List Value)
    → Comes R C floor (signalled names program limit k class slots around z)
signal_comes names program limit none k around z hidden h class slots =
    signals (at_level names program limit k) (levels_below names program limit (λ r. absurd (none r)) k) _ class slots around hidden z h

-- ---- sites: no exit is reserved

abbrev pub NoExit : ℕ → Type 0
NoExit e = ⊥

pub none_hidden : (xs : List Exit) → Hidden NoExit xs
none_hidden [] = tt
none_hidden (x ∷ xs) = ((λ r. absurd r), none_hidden xs)

any_named : (floor e : ℕ) → Named NoExit ⊥ floor e
any_named floor e = record { free = λ r. r; made = λ c. absurd c }

any_kept : (z : FlatState) → Kept NoExit ⊥ 0 z
any_kept z = record { up = omega arith; first = λ e r. absurd r; captured = λ i cs is n e found. any_named z.state.exits e }

any_names : (env : FlatEnvironment) → NamesOnly (Named NoExit ⊥ 0) env
any_names env = record { own = λ n e found. any_named 0 e; captured = λ n e found. any_named 0 e }

any_turns : (t : FlatTask) → TurnsOnly (Named NoExit ⊥ 0) t
any_turns nothing = tt
any_turns (form f) = tt
any_turns (turn e rest all) = any_named 0 e
any_turns (methods c vs) = tt

at_sites : (R : ℕ → Type 0) (o : Outcome) (z : FlatState) → Going R o z → EndsAtSites o
at_sites R (value v) z g e w place same = absurd (cc same)
at_sites R (exit x v landing) z g e w place same = by (g.site place)
  where
    by : (landing ≡ at_site place → x ≡ 0) → e ≡ 0
    by h = subst (λ (n : ℕ). n ≡ 0) (cc same) (h (cc same))
at_sites R (full asked left_then) z g e w place same = absurd (cc same)
at_sites R more z g e w place same = absurd (cc same)

pub law_of_sites : LawOfSites
law_of_sites names program limit k around z = (
  (λ task env.
      at_sites NoExit _ _ (levels {R = NoExit} {C = ⊥} names program limit (λ r. absurd r) k 0 task env (any_turns task) (any_names env) around (none_hidden around.exits) z (any_kept z)).goes),
  (λ f vs. at_sites NoExit _ _ (application_comes {R = NoExit} {C = ⊥} names program limit (λ r. r) k around z (none_hidden around.exits) (any_kept z) f vs).goes),
  (λ class slots.
      at_sites NoExit _ _ (signal_comes {R = NoExit} {C = ⊥} names program limit (λ r. r) k around z (none_hidden around.exits) (any_kept z) class slots).goes),
)

-- ---- an exit without a name

module _ (n : ℕ) where
  -- that exit
  abbrev pub IsIt : ℕ → Type 0
  IsIt e = e ≡ n

  other_named : (floor e : ℕ) → IsOther n e → Named IsIt ⊥ floor e
  other_named floor e other = record { free = other; made = λ c. absurd c }

  others_kept : (z : FlatState) → IsUnnamed n z → Kept IsIt ⊥ (suc n) z
  others_kept z h = record {
    up = (let made = h.made in omega (arith, made));
    first = λ e same. omega (arith, same);
    captured = λ i cs is m e found. other_named z.state.exits e (h.captured i cs is m e found);
  }

  others_names : (env : FlatEnvironment) → NamesOnly (IsOther n) env → NamesOnly (Named IsIt ⊥ (suc n)) env
  others_names env h = record { own = λ m e found. other_named (suc n) e (h.own m e found); captured = λ m e found. other_named (suc n) e (h.captured m e found) }

  others_turns : (t : FlatTask) → TurnsOnly (IsOther n) t → TurnsOnly (Named IsIt ⊥ (suc n)) t
  others_turns nothing h = tt
  others_turns (form f) h = tt
  others_turns (turn e rest all) h = other_named (suc n) e h
  others_turns (methods c vs) h = tt

  not_sought : (xs : List Exit) → NotSought n xs → Hidden IsIt xs
  not_sought [] h = tt
  not_sought (x ∷ xs) h = (h.0, not_sought xs h.1)

  pub never_left : (o : Outcome) (z : FlatState) → 1 ≤ n → Going IsIt o z → NeverLeft n o
  never_left (value v) z some g w landing same = absurd (cc same)
  never_left (exit x v l) z some g w landing same = by (g.end (cc same)).0 (cc same)
    where
      by : x ≡ 0 → x ≡ n → ⊥
      by zeroth is = absurd (omega (arith, some, zeroth, is))
  never_left (full asked left_then) z some g w landing same = absurd (cc same)
  never_left more z some g w landing same = absurd (cc same)

  unnamed_left : (r : FlatEvaluated) → 1 ≤ n → Comes IsIt ⊥ (suc n) r → NeverLeft n r.outcome × IsUnnamed n r.state
  unnamed_left r some x = (
    never_left r.outcome r.state some x.goes,
    record { made = (let up = x.kept.up in omega (arith, up)); captured = λ i cs is m e found. (x.kept.captured i cs is m e found).free },
  )

pub law_of_unnamed_exits : LawOfUnnamedExits
law_of_unnamed_exits names program limit k n around z some sought h = (
  (λ task env t known.
      unnamed_left n _ some
      (levels {R = IsIt n} {C = ⊥} names program limit (λ same. absurd (omega (arith, same, some))) k (suc n) task env (others_turns n task t) (others_names n env known) around
      (not_sought n around.exits sought) z (others_kept n z h))),
  (λ f vs.
      unnamed_left n _ some
      (application_comes {R = IsIt n} {C = ⊥} names program limit (λ same. absurd (omega (arith, same, some))) k around z (not_sought n around.exits sought) (others_kept n z h) f vs)),
  (λ class slots.
      unnamed_left n _ some
      (signal_comes {R = IsIt n} {C = ⊥} names program limit (λ same. absurd (omega (arith, same, some))) k around z (not_sought n around.exits sought) (others_kept n z h) class slots)),
)

-- ---- exits that were made

made_named : (floor e : ℕ) → e < floor → Named NoExit ⊤ floor e
made_named floor e few = record { free = λ r. r; made = λ c. few }

pub made_kept : (z : FlatState) → CapturedAreMade z → Kept NoExit ⊤ z.state.exits z
made_kept z h = record { up = omega arith; first = λ e r. absurd r; captured = λ i cs is n e found. made_named z.state.exits e (h i cs is n e found) }

made_names : (z : FlatState) (env : FlatEnvironment) → NamesOnly (IsMade z) env → NamesOnly (Named NoExit ⊤ z.state.exits) env
made_names z env h = record { own = λ n e found. made_named z.state.exits e (h.own n e found); captured = λ n e found. made_named z.state.exits e (h.captured n e found) }

made_turns : (z : FlatState) (t : FlatTask) → TurnsOnly (IsMade z) t → TurnsOnly (Named NoExit ⊤ z.state.exits) t
made_turns z nothing h = tt
made_turns z (form f) h = tt
made_turns z (turn e rest all) h = made_named z.state.exits e h
made_turns z (methods c vs) h = tt

pub captured_made : {R : ℕ → Type 0} {floor : ℕ} {z : FlatState} → Kept R ⊤ floor z → CapturedAreMade z
captured_made h i cs is n e found = (h.captured i cs is n e found).made tt

pub law_of_made_exits : LawOfMadeExits
law_of_made_exits names program limit k around z h = (
  (λ task env t known.
      captured_made
      (levels {R = NoExit} {C = ⊤} names program limit (λ r. absurd r) k z.state.exits task env (made_turns z task t) (made_names z env known) around (none_hidden around.exits) z (made_kept z h)).kept),
  (λ f vs. captured_made (application_comes {R = NoExit} {C = ⊤} names program limit (λ r. r) k around z (none_hidden around.exits) (made_kept z h) f vs).kept),
  (λ class slots. captured_made (signal_comes {R = NoExit} {C = ⊤} names program limit (λ r. r) k around z (none_hidden around.exits) (made_kept z h) class slots).kept),
)
