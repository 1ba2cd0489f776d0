-- What a reader answers is what the grammar says.
use Rattle.std.proofs.Common.{◌≡◌, ℕ, ◌+◌, List as Seq, [], ◌∷◌, ◌++◌, length, Option, Some, None, Ok, Err, refl, sym, ap, subst, ◌∙◌, arith, append-nil, append_assoc, length-append}
use Rattle.base.specs.declared.place.Place.{Place}
use Rattle.base.specs.declared.reason.Refusal.{Refusal}
use Rattle.base.specs.declared.reason.Reason.{Reason}
use Rattle.base.specs.declared.reason.Stop.{Stop}
use Rattle.base.specs.declared.reason.Stop.TheVariants.{Refused}
use Rattle.front_reader.specs.declared.cursor.Cursor.{Cursor}
use Rattle.base.specs.Data.{Item}
use Rattle.front_reader.specs.declared.pending.Pending.{Pending}
use Rattle.front_reader.specs.declared.gap.Mode.TheVariants.{Between}
use Rattle.front_reader.specs.declared.gap.Skipped.TheVariants.{Ends, OpenFrom}
use Rattle.front_reader.specs.Characters.{place_behind}
use Rattle.front_reader.specs.Gaps.{Gap}
use Rattle.front_reader.specs.Trees.{Trees, no_tree, spelled_all}
use Rattle.front_reader.specs.Meanings.{number_in}
use Rattle.front_reader.specs.Fronts.{Level, levels_spelled}
use Rattle.front_reader.specs.Stops.{StopsFirst}
use Rattle.front_reader.specs.bridge.Lexemes.{skip}
use Rattle.front_reader.specs.bridge.Machine.{LexemeState, stopped, finished, over, step}
use Rattle.front_reader.specs.bridge.Steps.{ReadTo, DatumFound}
use Rattle.front_reader.specs.Readers.{ReaderState}
use Rattle.front_reader.specs.Answers.{IsRead, IsEnded, IsReaderRefused}
use Rattle.front_reader.proofs.Skips.{skip-ends}
use Rattle.front_reader.proofs.Shifting.{skip-front}
use Rattle.front_reader.proofs.Stepping.{Numbers, state, place_behind-append}
use Rattle.front_reader.proofs.Fronting.{Held, held-length}
use Rattle.front_reader.proofs.Sounding.{Fronted, FrontedState, fronted-start, fronted-steps}
use Rattle.front_reader.proofs.Spelling.{fronted-reads, fronted-first}
use Rattle.front_reader.proofs.Ending.{finished-ended}
use Rattle.front_reader.proofs.Stopping.{step-stops}

-- what is read up to is a front
read-fronted : (number : Numbers) (text : Seq ℕ) (p : Place) (s : LexemeState) → ReadTo number text p s → FrontedState number text p s
read-fronted number text p s r = fronted-steps number text p (state text p [] []) s (fronted-start number text p) r

-- the same front of a text leaves the same
pub same-front : (a b r : Seq ℕ) → a ++ r ≡ b ++ r → a ≡ b
same-front [] [] r e = refl
same-front [] (c ∷ b) r e = absurd (omega (arith, ap length e, length-append b r))
same-front (c ∷ a) [] r e = absurd (omega (arith, ap length e, length-append a r))
same-front (c ∷ a) (d ∷ b) r e =
    let first : c ≡ d = cc in let others : a ++ r ≡ b ++ r = cc in
    ap (λ x. x ∷ a) first ∙ ap (λ x. d ∷ x) (same-front a b r others)

-- a datum was read
pub read-answer : (names : Seq (Seq ℕ)) (old : ReaderState) (rest : Seq ℕ) (q : Place) (d : Item) → old.stop ≡ None
    → ReadTo (number_in names) old.rest old.place (state rest q (d ∷ []) [])
    → IsRead names old (record { rest = rest; place = q; stop = old.stop }) d
read-answer names old rest q d fresh r =
    let f = fronted-reads names old.rest rest old.place q d (read-fronted (number_in names) old.rest old.place (state rest q (d ∷ []) []) r) in
    let next = f.0 in
    let whole : f.1.0 ++ rest ≡ (next.gap ++ next.bytes) ++ rest =
    sym f.1.1.0 ∙ next.front ∙ sym (append_assoc next.gap next.bytes rest) in
    record {
      fresh = fresh;
      still = fresh;
      reads = next;
      place = f.1.1.1 ∙ ap (place_behind old.place) (same-front f.1.0 (next.gap ++ next.bytes) rest whole)
          ∙ place_behind-append old.place next.gap next.bytes;
    }

none-open : (number : Numbers) (p : Place) (ts : Trees) (ls : Seq Level) (done : Seq Item) (os : Seq Pending)
    → Held number p ts ls done os → os ≡ [] → ls ≡ []
none-open number p ts [] done os h e = refl
none-open number p ts (l ∷ ls) done os h e =
    absurd (omega (arith, held-length number p ts (l ∷ ls) done os h, ap length e))

-- only a gap was left
pub ended-gap : (number : Numbers) (text : Seq ℕ) (p : Place) (s : LexemeState) → ReadTo number text p s → s.done ≡ []
    → step number s ≡ over (finished []) → Gap text []
unfolding spelled_all
ended-gap number text p s r e k =
    let f = read-fronted number text p s r in
    let end = finished-ended number s [] k in
    let held = subst (λ ds. Fronted number text p s.rest s.place ds s.pending) e f in
    let none : held.levels ≡ [] = none-open number p held.trees held.levels [] s.pending held.held end.closed in
    let first : held.trees ≡ no_tree = fronted-first number text p s.rest s.place s.pending held in
    let all : text ≡ s.rest =
    held.spells ∙ ap (λ ls. levels_spelled held.trees ls s.rest) none ∙ ap (λ ts. spelled_all ts s.rest) first in
    subst (λ t. Gap t []) (sym all) end.is_gap

-- a stop
pub stopped-first : (number : Numbers) (text : Seq ℕ) (p : Place) (s : LexemeState) (at : Place) (r : Reason) (left : Seq ℕ)
    → ReadTo number text p s → s.done ≡ [] → step number s ≡ over (stopped at r left) → StopsFirst p text at r
stopped-first number text p s at r left a e k =
    let f = read-fronted number text p s a in
    let x = step-stops number text p s at r left f k in
    let held = subst (λ ds. Fronted number text p s.rest s.place ds s.pending) e f in
    record { stops = x.0; first = x.1 ∙ first-of s.done e f }
  where
    first-of : (ds : Seq Item) → ds ≡ [] → (f : Fronted number text p s.rest s.place ds s.pending) → f.trees ≡ no_tree
    first-of [] e f = fronted-first number text p s.rest s.place s.pending f
    first-of (d ∷ ds) e f = absurd (cc)

-- ---- whether only a gap is left

pub gap-at-end : (text : Seq ℕ) (n : ℕ) → skip Between 0 0 text ≡ Ends n → n ≡ length text → Gap text []
gap-at-end text n e f =
    let a = skip-ends text n e in
    let none : length a.after ≡ 0 = omega (arith, f, a.count, ap length a.front, length-append a.gap a.after) in
    by a.gap a.after a.front a.is_gap none
  where
    by : (g after : Seq ℕ) → text ≡ g ++ after → Gap g after → length after ≡ 0 → Gap text []
    by g [] i gap z = subst (λ t. Gap t []) (sym (i ∙ append-nil g)) gap
    by g (b ∷ bs) i gap z = absurd (omega arith)

gap-skipped : (text : Seq ℕ) → Gap text [] → skip Between 0 0 text ≡ Ends (length text + 0)
unfolding skip
gap-skipped text h = ap (skip Between 0 0) (sym (append-nil text)) ∙ skip-front text [] h

pub end-at-gap : (text : Seq ℕ) (n : ℕ) → skip Between 0 0 text ≡ Ends n → Gap text [] → n ≡ length text
end-at-gap text n e h =
    let s = gap-skipped text h in
    let same : n ≡ length text + 0 = cc in omega arith

pub open-no-gap : (text : Seq ℕ) (n : ℕ) → skip Between 0 0 text ≡ OpenFrom n → Gap text [] → ⊥
open-no-gap text n e h = let s = gap-skipped text h in absurd (cc)

-- ---- the answers of a reader, from what reading led to

pub answer-read : (names : Seq (Seq ℕ)) (rest : Seq ℕ) (p : Place) (stop : Option Refusal) (o : Option (Cursor × Item)) (c : Cursor) (d : Item)
    → stop ≡ None → DatumFound names rest p (Ok o) → o ≡ Some (c, d)
    → IsRead names (record { rest = rest; place = p; stop = stop }) (record { rest = c.rest.now; place = c.place; stop = stop }) d
answer-read names rest p stop o c d fresh f e =
    let F : Option (Cursor × Item) → Type 0 = λ x. DatumFound names rest p (Ok x) in
    let g : F (Some (c, d)) = subst F e f in
    read-answer names (record { rest = rest; place = p; stop = stop }) c.rest.now c.place d fresh g.0

pub answer-ended : (names : Seq (Seq ℕ)) (rest : Seq ℕ) (p : Place) (stop : Option Refusal) (o : Option (Cursor × Item))
    → stop ≡ None → DatumFound names rest p (Ok o) → o ≡ None
    → IsEnded (record { rest = rest; place = p; stop = stop }) (record { rest = rest; place = p; stop = stop })
answer-ended names rest p stop o fresh f e =
    let F : Option (Cursor × Item) → Type 0 = λ x. DatumFound names rest p (Ok x) in
    let g : F None = subst F e f in
    record { fresh = fresh; is_gap = ended-gap (number_in names) rest p g.0 g.1.0 g.1.1 g.1.2; same = refl }

pub answer-refused : (names : Seq (Seq ℕ)) (rest : Seq ℕ) (p : Place) (stop : Option Refusal) (x : Stop) (r : Refusal)
    → stop ≡ None → DatumFound names rest p (Err x) → x ≡ Refused r
    → IsReaderRefused (record { rest = rest; place = p; stop = stop }) (record { rest = rest; place = p; stop = Some r }) r
answer-refused names rest p stop x r fresh f e =
    let F : Stop → Type 0 = λ y. DatumFound names rest p (Err y) in
    let g : F (Refused r) = subst F e f in
    record {
      kept = refl;
      stops = λ _. stopped-first (number_in names) rest p g.0 r.place r.reason g.1.0 g.1.1.0 g.1.1.1 g.1.1.2;
      again = λ s k. absurd (let no : Some s ≡ None = sym k ∙ fresh in cc);
    }
