-- Outcomes that come to frames.
use Rattle.std.proofs.Common.{◌≡◌, ◌≢◌, ℕ, zero, suc, ◌==◌, true, false, List, [], ◌∷◌, refl, ap, sym, ◌∙◌, reverse, arith, ◌⊎◌, ⊎_elim}
use Rattle.std.proofs.lemmas.Bool.Decides.{nat_tests}
use Rattle.lang_meaning.specs.State.{exits_from}
use Rattle.lang_meaning.specs.State.{Landing, exit, more}
use Rattle.lang_meaning.specs.Values.{Value}
use Rattle.lang_meaning.specs.Meaning.{segment_of}
use Rattle.flat_language.specs.FlatForm.{FlatForm, FlatForms}
use Rattle.flat_language.specs.FlatMeaning.{from_segment}
use Rattle.flat_language.specs.FlatState.{FlatState}
use Rattle.flat_language.specs.model.View.{forms}
use Rattle.eval_machine.specs.Configuration.{Setting, ContinuationFrame, Transition, Situation as Within, configuration, come_to, descend}
use Rattle.eval_machine.specs.Step.{turn_step, cleanup_step, segments_step}
use Rattle.eval_store.specs.declared.word.Word.{Word}
use Rattle.eval_state.specs.declared.frame.Outcome.{Outcome}
use Rattle.eval_state.specs.declared.frame.Outcome.TheVariants as outcome
use Rattle.eval_state.specs.declared.situation.Situation.{Situation}
use Rattle.eval_state.specs.declared.machine.Machine.{Machine}
use Rattle.eval_state.specs.Chains.{chained}
use Rattle.eval_state.specs.Frames.{outcome_of, exit_link, forms_from, inside_tagbody, situation_in, around_in}
use Rattle.eval_state.specs.View.{at}

-- the segments from one of them on
pub segments_left : (n : ℕ) (fs : List FlatForm) → forms_from fs n ≡ from_segment n (forms fs)
segments_left zero [] = refl
segments_left zero (f ∷ fs) = refl
segments_left (suc n) [] = refl
segments_left (suc n) (f ∷ fs) = segments_left n fs

-- the situation in a tagbody, one level below
pub lower : (names : List (List ℕ)) (m : Machine) (number level : ℕ) (outside : Situation)
    → inside_tagbody number (at names m (record outside { level = level })) ≡ record (inside_tagbody number (at names m outside)) { level = level }
unfolding situation_in
lower names m number level outside = refl

-- the situation of a cleanup during a transfer
pub without_inner : (names : List (List ℕ)) (m : Machine) (number link : ℕ) (s : Situation)
    → chained (exit_link names) (reverse m.frames.items) link ≡ exits_from number (chained (exit_link names) (reverse m.frames.items) s.around.exits)
    → at names m (record s { around = record s.around { exits = link } })
    ≡ record (at names m s) { around = record (at names m s).around { exits = exits_from number (at names m s).around.exits } }
unfolding situation_in around_in
without_inner names m number link s h = rw h refl

-- a transfer to the tagbody, which goes on one level below
pub turned : (s : Setting) (number e level : ℕ) (all : FlatForms) (at : Within) (w : Value) (landing : Landing) (frames : List ContinuationFrame) (z : FlatState) → at.level ≡ level → e ≡ number
    → descend level (λ k. segments_step s number (from_segment (segment_of landing) all) all (record at { level = k })) frames z ≡ turn_step s number all at (exit e w landing) frames z
turned s number e level all at w landing frames z h k =
    let t : (e == number) ≡ true = grind (arith, nat_tests) in
    ap (λ n. descend n (λ k. segments_step s number (from_segment (segment_of landing) all) all (record at { level = k })) frames z) (sym h) ∙ rw t refl

-- a transfer that goes further
pub not_turned : (s : Setting) (number e : ℕ) (all : FlatForms) (at : Within) (w : Value) (landing : Landing) (frames : List ContinuationFrame) (z : FlatState) → e ≢ number
    → configuration (come_to (exit e w landing)) frames z ≡ turn_step s number all at (exit e w landing) frames z
not_turned s number e all at w landing frames z k =
    let t : (e == number) ≡ false = grind (arith, nat_tests) in
    rw t refl

-- how many levels there are below a tagbody
pub level_in : (names : List (List ℕ)) (m : Machine) (number : ℕ) (outside : Situation) → (inside_tagbody number (at names m outside)).level ≡ outside.level
unfolding situation_in
level_in names m number outside = refl

-- no level is left
pub no_level_left : (next : ℕ → Transition) (level : ℕ) (frames : List ContinuationFrame) (z : FlatState) → level ≡ 0 → configuration (come_to more) frames z ≡ descend level next frames z
no_level_left next level frames z h = ap (λ n. descend n next frames z) (sym h)

-- there is one below
pub one_level_less : (next : ℕ → Transition) (level below : ℕ) (frames : List ContinuationFrame) (z : FlatState) → level ≡ suc below → next below frames z ≡ descend level next frames z
one_level_less next level below frames z h = ap (λ n. descend n next frames z) (sym h)

-- an outcome that is no transfer goes through a tagbody
pub turns_other : (names : List (List ℕ)) (s : Setting) (number : ℕ) (all : FlatForms) (at : Within) (o : Outcome) (frames : List ContinuationFrame) (z : FlatState)
    → ((w : Word) × (o ≡ outcome.Value w)) ⊎ ((asked : ℕ) × (left : ℕ) × (o ≡ outcome.Full asked left)) ⊎ (o ≡ outcome.More)
    → configuration (come_to (outcome_of names o)) frames z ≡ turn_step s number all at (outcome_of names o) frames z
turns_other names s number all at (outcome.Value x) frames z h = refl
turns_other names s number all at (outcome.Exit e x l) frames z h = absurd (⊎_elim (λ p. cc) (λ p. ⊎_elim (λ q. cc) (λ q. cc) p) h)
turns_other names s number all at (outcome.Full asked left) frames z h = refl
turns_other names s number all at outcome.More frames z h = refl

-- and one that fails goes through a form with a cleanup
pub cleans_other : (names : List (List ℕ)) (s : Setting) (cleanup : FlatForm) (at : Within) (o : Outcome) (frames : List ContinuationFrame) (z : FlatState)
    → ((asked : ℕ) × (left : ℕ) × (o ≡ outcome.Full asked left)) ⊎ (o ≡ outcome.More)
    → configuration (come_to (outcome_of names o)) frames z ≡ cleanup_step s cleanup at (outcome_of names o) frames z
cleans_other names s cleanup at (outcome.Value x) frames z h = absurd (⊎_elim (λ p. cc) (λ p. cc) h)
cleans_other names s cleanup at (outcome.Exit e x l) frames z h = absurd (⊎_elim (λ p. cc) (λ p. cc) h)
cleans_other names s cleanup at (outcome.Full asked left) frames z h = refl
cleans_other names s cleanup at outcome.More frames z h = refl
