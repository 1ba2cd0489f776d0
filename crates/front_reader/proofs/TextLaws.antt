-- The laws of texts: one reading at most, one stop at most, and not both.
use Rattle.std.proofs.Common.{◌≡◌, ℕ, ◌+◌, ◌≤◌, List as Seq, [], ◌++◌, length, refl, sym, ap, subst, ◌∙◌, arith, append-nil}
use Rattle.base.specs.declared.place.Place.{Place}
use Rattle.base.specs.declared.reason.Reason.{Reason}
use Rattle.base.specs.Data.{Item}
use Rattle.front_reader.specs.declared.pending.Pending.{Pending}
use Rattle.front_reader.specs.Characters.{place_behind}
use Rattle.front_reader.specs.Gaps.{Gap}
use Rattle.front_reader.specs.Trees.{Trees, spelled_all, behind_all, StandsAll}
use Rattle.front_reader.specs.Meanings.{number_in, MeansAll}
use Rattle.front_reader.specs.Reads.{Text}
use Rattle.front_reader.specs.Fronts.{Front, levels_behind, front_behind, IsFront}
use Rattle.front_reader.specs.Stops.{Row, Stops}
use Rattle.front_reader.specs.bridge.Lexemes.{skip}
use Rattle.front_reader.specs.bridge.Machine.{LexemesEnd, finished, stopped, over, by_gap, by_rest, step}
use Rattle.front_reader.proofs.Stepping.{Numbers, state, step-gap}
use Rattle.front_reader.proofs.Completing.{at_top, trees-steps}
use Rattle.front_reader.proofs.Fronting.{Held, front-steps, all_zero, all-means-exist, held-exists}
use Rattle.front_reader.proofs.Running.{Runs, ends, goes, runs-after, runs-once, runs-exist, runs-left}
use Rattle.front_reader.proofs.Rows.{row-step}

-- at the end of a text whose data are whole
end-step : (number : Numbers) (p : Place) (ds : Seq Item) → step number (state [] p ds []) ≡ over (finished ds)
unfolding step by_gap by_rest skip
end-step number p ds = refl

-- a gap at the end of a text
pub last-step : (number : Numbers) (g : Seq ℕ) (p : Place) (ds : Seq Item) → Gap g []
    → step number (state g p ds []) ≡ over (finished ds)
last-step number g p ds h =
    ap (λ r. step number (state r p ds [])) (sym (append-nil g))
    ∙ step-gap number g [] p ds [] h ∙ end-step number (place_behind p g) ds

-- the machine reads a text of the grammar
pub text-runs : (number : Numbers) (ts : Trees) (g : Seq ℕ) (p : Place) (ds : Seq Item) → StandsAll 0 ts g → Gap g []
    → MeansAll number p ts ds → Runs number (state (spelled_all ts g) p [] []) (finished ds)
text-runs number ts g p ds s k m =
    runs-after number _ (state g (behind_all p ts) ds []) (finished ds)
    (trees-steps number ts at_top g p ds s m)
    (ends (state g (behind_all p ts) ds []) (finished ds) (last-step number g (behind_all p ts) ds k))

-- from the begin of a text to the end of a front
front-runs : (number : Numbers) (p : Place) (text : Seq ℕ) (f : Front) (rest : Seq ℕ) (done : Seq Item) (os : Seq Pending) (o : LexemesEnd)
    → IsFront text f rest → Held number p f.data_before f.levels done os
    → Runs number (state rest (front_behind p f) done os) o → Runs number (state text p [] []) o
front-runs number p text f rest done os o x h (ends s u e) =
    subst (λ t. Runs number (state t p [] []) o) (sym x.spells)
    (runs-after number _ _ o
    (front-steps number p f.data_before f.levels (f.gap ++ rest) done os x.stands h)
    (ends _ o (step-gap number f.gap rest (levels_behind p f.data_before f.levels) done os x.is_gap ∙ e)))
front-runs number p text f rest done os o x h (goes s t u e r) =
    subst (λ t. Runs number (state t p [] []) o) (sym x.spells)
    (runs-after number _ _ o
    (front-steps number p f.data_before f.levels (f.gap ++ rest) done os x.stands h)
    (goes _ t o (step-gap number f.gap rest (levels_behind p f.data_before f.levels) done os x.is_gap ∙ e) r))

-- the machine stops where a front is followed by what a row describes
pub row-runs : (p : Place) (text : Seq ℕ) (f : Front) (rest : Seq ℕ) (at : Place) (r : Reason) → IsFront text f rest
    → Row p f.data_before f.levels (front_behind p f) rest at r
    → Runs all_zero (state text p [] []) (stopped at r rest)
row-runs p text f rest at r x w =
    let h = held-exists p f.data_before f.levels in
    front-runs all_zero p text f rest h.0 h.1.0 (stopped at r rest) x h.1.1
    (ends (state rest (front_behind p f) h.0 h.1.0) (stopped at r rest)
    (row-step all_zero p f.data_before f.levels (front_behind p f) rest at r h.0 h.1.0 h.1.1 w))

-- no front of a text is longer than one that is followed by what a row describes
pub row-longest : (p : Place) (text : Seq ℕ) (f : Front) (rest : Seq ℕ) (at : Place) (r : Reason) → IsFront text f rest
    → Row p f.data_before f.levels (front_behind p f) rest at r
    → (g : Front) (left : Seq ℕ) → IsFront text g left → length rest ≤ length left
row-longest p text f rest at r x w g left y =
    let h = held-exists p g.data_before g.levels in
    let k = runs-exist all_zero (length left + 1) (state left (front_behind p g) h.0 h.1.0) (omega arith) in
    let one = front-runs all_zero p text g left h.0 h.1.0 k.0 y h.1.1 k.1 in
    let same : k.0 ≡ stopped at r rest = runs-once all_zero (state text p [] []) k.0 (stopped at r rest) one (row-runs p text f rest at r x w) in
    runs-left all_zero (state left (front_behind p g) h.0 h.1.0) at r rest (subst (Runs all_zero (state left (front_behind p g) h.0 h.1.0)) same k.1)

-- a text has at most one reading
pub one_reading : (names : Seq (Seq ℕ)) (text : Seq ℕ) (p : Place) (ds es : Seq Item) → Text names text p ds → Text names text p es
    → ds ≡ es
one_reading names text p ds es a b =
    let x = subst (λ t. Runs (number_in names) (state t p [] []) (finished ds)) (sym a.spells) (text-runs (number_in names) a.trees a.gap p ds a.stands a.is_gap a.means) in
    let y = subst (λ t. Runs (number_in names) (state t p [] []) (finished es)) (sym b.spells) (text-runs (number_in names) b.trees b.gap p es b.stands b.is_gap b.means) in
    let e = runs-once (number_in names) (state text p [] []) (finished ds) (finished es) x y in
    cc

-- a text stops in at most one way
pub one_stop : (p : Place) (text : Seq ℕ) (a b : Place) (q r : Reason) → Stops p text a q → Stops p text b r
    → (a ≡ b) × (q ≡ r)
one_stop p text a b q r x y =
    let e = runs-once all_zero (state text p [] []) (stopped a q x.rest) (stopped b r y.rest)
    (row-runs p text x.front x.rest a q x.is_front x.row) (row-runs p text y.front y.rest b r y.is_front y.row) in
    (cc, cc)

-- a text that reads does not stop
pub reads_or_stops : (names : Seq (Seq ℕ)) (text : Seq ℕ) (p : Place) (ds : Seq Item) (at : Place) (r : Reason)
    → Text names text p ds → Stops p text at r → ⊥
reads_or_stops names text p ds at r a x =
    let m = all-means-exist p a.trees in
    let y = subst (λ t. Runs all_zero (state t p [] []) (finished m.0)) (sym a.spells) (text-runs all_zero a.trees a.gap p m.0 a.stands a.is_gap m.1) in
    let e = runs-once all_zero (state text p [] []) (finished m.0) (stopped at r x.rest) y (row-runs p text x.front x.rest at r x.is_front x.row) in
    absurd (cc)
