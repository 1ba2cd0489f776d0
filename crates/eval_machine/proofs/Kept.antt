-- What every step keeps: what was printed stays in front, of what is left of the input the last ones are left, and units are only
-- added; and a Full that is come to, or that a frame keeps, asked for more words than were left. One lemma for each combinator of
-- the machine.
use Rattle.std.proofs.Common.{◌<◌, ◌≤◌, ◌+◌, ℕ, zero, suc, Bool, true, false, List, [], ◌∷◌, ◌++◌, Option, Some, None, refl, sym, ap, ◌∙◌, append_assoc, append-nil, arith}
use Rattle.std.specs.Prelude.{⊤, if◌then◌else◌}
use Rattle.lang_meaning.specs.Prefixes.{IsPrefix, IsLastOf}
use Rattle.lang_meaning.specs.Values.{Value}
use Rattle.lang_meaning.specs.State.{State, Outcome, value, exit, full, more}
use Rattle.lang_meaning.specs.State as base
use Rattle.lang_meaning.specs.Lookup.{passed}
use Rattle.flat_language.specs.FlatState.{FlatState, FlatEvaluated, charged, go_on, go_on_from}
use Rattle.eval_machine.specs.Configuration.{Wait, ContinuationFrame, Control, evaluate, signals, come_to, kept, awaits, Configuration, Transition, configuration, ended, then_on, then_on_from, some_or, descend, first_that}
use Rattle.eval_machine.specs.Applications.{searched}

-- how far a run is: what was printed, what is left of the input, and the units
pub record Progress : Type 0 where
  pub printed : List ℕ
  pub left : List ℕ
  pub units : ℕ

abbrev pub progress : State → Progress
progress z = record { printed = z.printed; left = z.input; units = z.units }

-- with so many units more
abbrev pub counted : ℕ → Progress → Progress
counted n p = record p { units = p.units + n }

-- further on
pub record IsLater (before after : Progress) : Type 0 where
  pub printed : IsPrefix before.printed after.printed
  pub left : IsLastOf after.left before.left
  pub units : before.units ≤ after.units

same_prefix : (xs : List ℕ) → IsPrefix xs xs
same_prefix xs = record { rest = []; is = append-nil xs }

longer : {xs ys zs : List ℕ} → IsPrefix xs ys → IsPrefix ys zs → IsPrefix xs zs
longer {xs} {ys} {zs} b c = record {
  rest = b.rest ++ c.rest;
  is = sym (append_assoc xs b.rest c.rest) ∙ ap (λ us. us ++ c.rest) b.is ∙ c.is;
}

shorter : {xs ys zs : List ℕ} → IsLastOf xs ys → IsLastOf ys zs → IsLastOf xs zs
shorter {xs} {ys} {zs} b c = record {
  front = c.front ++ b.front;
  is = append_assoc c.front b.front xs ∙ ap (λ us. c.front ++ us) b.is ∙ c.is;
}

not_less : (n : ℕ) → n ≤ n
not_less n = omega arith

at_most : (a b c : ℕ) → a ≤ b → b ≤ c → a ≤ c
at_most a b c p q = omega arith

pub same : (x : Progress) → IsLater x x
same x = record { printed = same_prefix x.printed; left = record { front = []; is = refl }; units = not_less x.units }

pub further : {x y z : Progress} → IsLater x y → IsLater y z → IsLater x z
further {x} {y} {z} p q = record {
  printed = longer p.printed q.printed;
  left = shorter q.left p.left;
  units = at_most x.units y.units z.units p.units q.units;
}

-- units counted: more than before, none, and some
pub with_units : (few many : ℕ) (x : Progress) → few ≤ many → IsLater (counted few x) (counted many x)
with_units few many x h = record { printed = same_prefix x.printed; left = record { front = []; is = refl }; units = sum x.units few many h }
  where
    sum : (u a b : ℕ) → a ≤ b → u + a ≤ u + b
    sum u a b h = omega arith

pub none_counted : (z : State) → IsLater (counted 0 (progress z)) (progress z)
none_counted z = record { printed = same_prefix z.printed; left = record { front = []; is = refl }; units = sum z.units }
  where
    sum : (u : ℕ) → u + 0 ≤ u
    sum u = omega arith

pub counts : (n : ℕ) (z : State) → IsLater (progress z) (progress (base.charged n z))
counts n z = record { printed = same_prefix z.printed; left = record { front = []; is = refl }; units = sum z.units n }
  where
    sum : (u a : ℕ) → u ≤ u + a
    sum u a = omega arith

-- a Full asked for more than was left: as an outcome, as what is done next, and kept by frames
abbrev pub FineOutcome : Outcome → Type 0
FineOutcome (value v) = ⊤
FineOutcome (exit e v landing) = ⊤
FineOutcome (full asked left) = left < asked
FineOutcome more = ⊤

abbrev pub FineControl : Control → Type 0
FineControl (evaluate f at) = ⊤
FineControl (signals c mark level around) = ⊤
FineControl (come_to o) = FineOutcome o

abbrev pub FineWait : Wait → Type 0
FineWait (kept o) = FineOutcome o
FineWait w = ⊤

abbrev pub FineFrame : ContinuationFrame → Type 0
FineFrame (awaits w) = FineWait w
FineFrame f = ⊤

abbrev pub FineFrames : List ContinuationFrame → Type 0
FineFrames [] = ⊤
FineFrames (f ∷ fs) = FineFrame f × FineFrames fs

pub record IsFine (m : Configuration) : Type 0 where
  pub control : FineControl m.control
  pub frames : FineFrames m.frames

-- what a step comes to, from these frames and how far the run was before
pub record StepKeepsPrinted (frames : List ContinuationFrame) (before : Progress) (m : Configuration) : Type 0 where
  pub later : IsLater before (progress m.state.state)
  pub fine : FineFrames frames → IsFine m

-- what is evaluated at once
pub record Gives (before : Progress) (r : FlatEvaluated) : Type 0 where
  pub later : IsLater before (progress r.state.state)
  pub fine : FineOutcome r.outcome

-- a configuration with the same frames, and with one more
pub there : {before : Progress} {c : Control} {frames : List ContinuationFrame} {z : FlatState}
    → IsLater before (progress z.state) → FineControl c → StepKeepsPrinted frames before (configuration c frames z)
there p f = record { later = p; fine = λ h. record { control = f; frames = h } }

pub framed : {before : Progress} {c : Control} {f : ContinuationFrame} {frames : List ContinuationFrame} {z : FlatState}
    → IsLater before (progress z.state) → FineControl c → FineFrame f → StepKeepsPrinted frames before (configuration c (f ∷ frames) z)
framed p f g = record { later = p; fine = λ h. record { control = f; frames = (g, h) } }

-- from earlier on, and from beneath a frame that was added
pub earlier : {frames : List ContinuationFrame} {few many : Progress} {m : Configuration} → IsLater few many → StepKeepsPrinted frames many m → StepKeepsPrinted frames few m
earlier p x = record { later = further p x.later; fine = x.fine }

pub beneath : {frames : List ContinuationFrame} {before : Progress} {m : Configuration} (f : ContinuationFrame) → FineFrame f → StepKeepsPrinted (f ∷ frames) before m → StepKeepsPrinted frames before m
beneath f g x = record { later = x.later; fine = λ h. x.fine (g, h) }

pub gives_earlier : {few many : Progress} {r : FlatEvaluated} → IsLater few many → Gives many r → Gives few r
gives_earlier p x = record { later = further p x.later; fine = x.fine }

-- what was evaluated, into the frames
pub given : {before : Progress} {o : Outcome} {z : FlatState} → IsLater before (progress z.state) → FineOutcome o → Gives before (record { outcome = o; state = z })
given p f = record { later = p; fine = f }

pub ends : {frames : List ContinuationFrame} {before : Progress} {r : FlatEvaluated} → Gives before r → StepKeepsPrinted frames before (ended r frames)
ends g = record { later = g.later; fine = λ h. record { control = g.fine; frames = h } }

-- what goes on with a value
on_from : {before : Progress} (o : Outcome) (z : FlatState) (frames : List ContinuationFrame) (next : Value → FlatState → Configuration)
    → IsLater before (progress z.state) → FineOutcome o → ((v : Value) (y : FlatState) → StepKeepsPrinted frames (progress y.state) (next v y))
    → StepKeepsPrinted frames before (then_on_from o z frames next)
on_from (value v) z frames next p f h = earlier p (h v z)
on_from (exit e v landing) z frames next p f h = there p f
on_from (full asked left) z frames next p f h = there p f
on_from more z frames next p f h = there p f

pub on : {before : Progress} {r : FlatEvaluated} {frames : List ContinuationFrame} {next : Value → FlatState → Configuration}
    → Gives before r → ((v : Value) (y : FlatState) → StepKeepsPrinted frames (progress y.state) (next v y)) → StepKeepsPrinted frames before (then_on r frames next)
on {before} {r} {frames} {next} g h = on_from r.outcome r.state frames next g.later g.fine h

-- either of two, and what stands there, if something does
pub either : (b : Bool) {frames : List ContinuationFrame} {before : Progress} {m m' : Configuration}
    → StepKeepsPrinted frames before m → StepKeepsPrinted frames before m' → StepKeepsPrinted frames before (if b then m else m')
either true x y = x
either false x y = y

pub some : {X : Type 0} (o : Option X) (otherwise : Transition) (next : X → Transition) {frames inner : List ContinuationFrame} {before : Progress} {z : FlatState}
    → StepKeepsPrinted frames before (otherwise inner z) → ((x : X) → StepKeepsPrinted frames before (next x inner z)) → StepKeepsPrinted frames before (some_or o otherwise next inner z)
some None otherwise next n s = n
some (Some x) otherwise next n s = s x

-- a search
pub searches : {X : Type 0} (p : X → Bool) (found : X → Transition) (otherwise : Transition) (xs : List X) (frames : List ContinuationFrame) (z : FlatState)
    → ((x : X) (y : FlatState) → StepKeepsPrinted frames (progress y.state) (found x frames y)) → ((y : FlatState) → StepKeepsPrinted frames (progress y.state) (otherwise frames y))
    → StepKeepsPrinted frames (progress z.state) (searched p found otherwise xs frames z)
searches p found otherwise xs frames z f n =
    earlier (counts (passed p xs) z.state) (some (first_that p xs) otherwise found (n (charged (passed p xs) z)) (λ x. f x (charged (passed p xs) z)))

-- what needs a level
pub descends : (level : ℕ) (next : ℕ → Transition) (frames : List ContinuationFrame) (z : FlatState)
    → ((k : ℕ) → StepKeepsPrinted frames (progress z.state) (next k frames z)) → StepKeepsPrinted frames (progress z.state) (descend level next frames z)
descends zero next frames z h = there (same _) tt
descends (suc k) next frames z h = h k

-- what is evaluated after a part
pub then_given : {before : Progress} {r : FlatEvaluated} {next : Value → FlatState → FlatEvaluated}
    → Gives before r → ((v : Value) (y : FlatState) → Gives (progress y.state) (next v y)) → Gives before (go_on r next)
then_given {before} {r} {next} g h = at r.outcome r.state g.later g.fine
  where
    at : (o : Outcome) (z : FlatState) → IsLater before (progress z.state) → FineOutcome o → Gives before (go_on_from o z next)
    at (value v) z p f = record { later = further p (h v z).later; fine = (h v z).fine }
    at (exit e v landing) z p f = given p f
    at (full asked left) z p f = given p f
    at more z p f = given p f
