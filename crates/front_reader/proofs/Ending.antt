-- Where the machine is at the end of a text, only a gap was left and nothing was open.
use Rattle.std.proofs.Common.{◌≡◌, ℕ, true, false, nat_le, List as Seq, [], ◌∷◌, ◌++◌, length, take, drop, Option, Some, None, refl, sym, subst, ◌∙◌, append-nil, if◌then◌else◌}
use Rattle.std.proofs.Math.Seq.{drop-append_seam, take-append_seam}
use Rattle.base.specs.declared.place.Place.{Place}
use Rattle.base.specs.declared.reason.Reason.TheVariants.{NestTooDeep}
use Rattle.base.specs.Data.{Item, Content}
use Rattle.front_reader.specs.declared.opening.Opening.{Opening}
use Rattle.front_reader.specs.declared.opening.Opening.TheVariants.{List, Vector, Before}
use Rattle.front_reader.specs.declared.lexeme.Lexeme.{Lexeme}
use Rattle.front_reader.specs.declared.lexeme.Lexed.{Lexed}
use Rattle.front_reader.specs.declared.lexeme.Lexed.TheVariants.{Taken, Fault}
use Rattle.front_reader.specs.declared.gap.Mode.TheVariants.{Between}
use Rattle.front_reader.specs.declared.gap.Skipped.{Skipped}
use Rattle.front_reader.specs.declared.gap.Skipped.TheVariants.{Ends, OpenFrom}
use Rattle.front_reader.specs.declared.pending.Pending.{Pending}
use Rattle.front_reader.specs.declared.pending.Pending.TheVariants.{InList, AtDot, AtTail, InVector, AtPrefix}
use Rattle.front_reader.specs.Characters.{place_behind}
use Rattle.front_reader.specs.Gaps.{Gap}
use Rattle.front_reader.specs.Atoms.{Atom}
use Rattle.front_reader.specs.Meanings.{atom_content, prefix_name}
use Rattle.front_reader.specs.bridge.Lexemes.{skip, lex}
use Rattle.front_reader.specs.bridge.Machine.{LexemeState, finished, stopped, unknown, LexemeStep, next, over, moved, full_dot, ending, closing, dot_step, prefix_step, opened, unless_full, opening_step, content_step, atom_step, act, by_lexed, by_rest, by_gap, step}
use Rattle.front_reader.proofs.Skips.{skip-ends}
use Rattle.front_reader.proofs.EachAct.{at-act}
use Rattle.front_reader.proofs.Stepping.{Numbers, state}

-- the step is not the end of the text
abbrev TextGoesOn : LexemeStep → Type 0
TextGoesOn (next t) = Unit {0}
TextGoesOn (over (finished ds)) = ⊥
TextGoesOn (over (stopped p r left)) = Unit {0}
TextGoesOn (over unknown) = Unit {0}

closing-goes : (s : LexemeState) (p : Place) (r : Seq ℕ) (os : Seq Pending) → TextGoesOn (closing s p r os)
closing-goes s p r [] = tt
closing-goes s p r (AtPrefix q n ∷ os) = tt
closing-goes s p r (InList q ds ∷ os) = tt
closing-goes s p r (InVector q ds ∷ os) = tt
closing-goes s p r (AtDot q ds at ∷ os) = tt
closing-goes s p r (AtTail q ds at d ∷ os) = tt

dot-goes : (s : LexemeState) (p : Place) (r : Seq ℕ) (os : Seq Pending) → TextGoesOn (dot_step s p r os)
dot-goes s p r [] = tt
dot-goes s p r (AtPrefix q n ∷ os) = tt
dot-goes s p r (InList q [] ∷ os) = tt
dot-goes s p r (InList q (d ∷ ds) ∷ os) = tt
dot-goes s p r (InVector q ds ∷ os) = tt
dot-goes s p r (AtDot q ds at ∷ os) = tt
dot-goes s p r (AtTail q ds at d ∷ os) = tt

full-goes : (o : Option Place) (r : Seq ℕ) (x : LexemeStep) → TextGoesOn x → TextGoesOn (unless_full o r x)
full-goes None r x h = h
full-goes (Some at) r x h = tt

prefix-goes : (s : LexemeState) (p : Place) (n : Option ℕ) → TextGoesOn (prefix_step s p n)
prefix-goes s p None = tt
prefix-goes s p (Some n) = tt

opened-goes : (number : Numbers) (s : LexemeState) (p : Place) (o : Opening) → TextGoesOn (opened number s p o)
opened-goes number s p List = tt
opened-goes number s p Vector = tt
opened-goes number s p (Before x) = prefix-goes s p (number (prefix_name x))

opening-goes : (number : Numbers) (s : LexemeState) (p : Place) (r : Seq ℕ) (o : Opening) → TextGoesOn (opening_step number s p r o)
opening-goes number s p r o =
    elim (nat_le 256 (length s.pending)) as (λ b. TextGoesOn (if b then over (stopped p NestTooDeep r) else unless_full (full_dot s.pending) r (opened number s p o))) [
      | true ↦ tt
      | false ↦ full-goes (full_dot s.pending) r _ (opened-goes number s p o)
    ]

content-goes : (s : LexemeState) (p : Place) (c : Option Content) → TextGoesOn (content_step s p c)
content-goes s p None = tt
content-goes s p (Some c) = tt

atom-goes : (number : Numbers) (s : LexemeState) (p : Place) (r : Seq ℕ) (a : Option Atom) → TextGoesOn (atom_step number s p r a)
atom-goes number s p r None = tt
atom-goes number s p r (Some a) = full-goes (full_dot s.pending) r _ (content-goes s p (atom_content number a))

act-goes : (number : Numbers) (s : LexemeState) (p : Place) (r w : Seq ℕ) (x : Lexeme) → TextGoesOn (act number s p r w x)
act-goes number s p r w x = at-act TextGoesOn number s p r w (record {
  closes = closing-goes s p r s.pending;
  dots = dot-goes s p r s.pending;
  opens = opening-goes number s p r;
  reads = atom-goes number s p r;
}) x

lexed-goes : (number : Numbers) (s : LexemeState) (x : Lexed) → TextGoesOn (by_lexed number s x)
unfolding by_lexed
lexed-goes number s (Fault k r) = tt
lexed-goes number s (Taken n x) = act-goes number (moved n s) s.place s.rest (take n s.rest) x

-- the end of a text
pub record TextEnded (rest : Seq ℕ) (os : Seq Pending) : Type 0 where
  pub is_gap : Gap rest []
  pub closed : os ≡ []

pub finished-ended : (number : Numbers) (s : LexemeState) (ds : Seq Item) → step number s ≡ over (finished ds) → TextEnded s.rest s.pending
unfolding step by_gap by_rest
finished-ended number s ds e = by (skip Between 0 0 s.rest) refl e
  where
    closed : (done : Seq Item) (os : Seq Pending) → ending done os ≡ over (finished ds) → os ≡ []
    closed done [] k = refl
    closed done (o ∷ os) k = absurd (cc)

    rests : (after g : Seq ℕ) → s.rest ≡ g ++ after → Gap g after
        → by_rest number (state after (place_behind s.place g) s.done s.pending) after ≡ over (finished ds) → TextEnded s.rest s.pending
    rests [] g i gap k =
        record { is_gap = subst (λ r. Gap r []) (sym (i ∙ append-nil g)) gap; closed = closed s.done s.pending k }
    rests (b ∷ bs) g i gap k =
        absurd (subst TextGoesOn k (lexed-goes number (state (b ∷ bs) (place_behind s.place g) s.done s.pending) (lex (b ∷ bs))))

    by : (x : Skipped) → skip Between 0 0 s.rest ≡ x → by_gap number s x ≡ over (finished ds) → TextEnded s.rest s.pending
    by (OpenFrom n) i k = absurd (cc)
    by (Ends n) i k =
        let a = skip-ends s.rest n i in
        let K : Seq ℕ → ℕ → Type 0 = λ all m. by_rest number (state (drop m all) (place_behind s.place (take m all)) s.done s.pending) (drop m all) ≡ over (finished ds) in
        let k2 : K (a.gap ++ a.after) (length a.gap) = subst (λ all. K all (length a.gap)) a.front (subst (K s.rest) a.count k) in
        let L : Seq ℕ → Type 0 = λ v. by_rest number (state v (place_behind s.place (take (length a.gap) (a.gap ++ a.after))) s.done s.pending) v ≡ over (finished ds) in
        let M : Seq ℕ → Type 0 = λ w. by_rest number (state a.after (place_behind s.place w) s.done s.pending) a.after ≡ over (finished ds) in
        rests a.after a.gap a.front a.is_gap
        (subst M (take-append_seam a.gap a.after) (subst L (drop-append_seam a.gap a.after) k2))
