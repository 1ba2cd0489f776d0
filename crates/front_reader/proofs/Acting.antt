-- What is done with a lexeme, as the calls say it.
use Rattle.std.proofs.Common.{◌≡◌, ℕ, List as Seq, reverse, true, false, Option, Some, None, IsSome, Result, Ok, Err, refl, sym, ap, subst, ◌∙◌}
use Rattle.base.specs.declared.place.Place.{Place}
use Rattle.base.specs.declared.datum.Kind.{Kind}
use Rattle.base.specs.declared.reason.Refusal.{Refusal}
use Rattle.base.specs.declared.reason.Reason.TheVariants.{BadDot}
use Rattle.base.specs.declared.reason.Stop.{Stop}
use Rattle.base.specs.declared.reason.Stop.TheVariants.{Refused, NoMemory}
use Rattle.base.specs.Data.{Item, item}
use Rattle.base.specs.model.DataView.{view_content}
use Rattle.front_reader.specs.declared.opening.Opening.{Opening}
use Rattle.front_reader.specs.declared.pending.Pending.{Pending}
use Rattle.front_reader.specs.declared.lexeme.Lexeme.{Lexeme}
use Rattle.front_reader.specs.declared.lexeme.Lexeme.TheVariants.{Close, Dot, Open, Integer, Character, Token, Bar, Text}
use Rattle.front_reader.specs.Atoms.{Atom}
use Rattle.front_reader.specs.Meanings.{atom_content}
use Rattle.front_reader.specs.bridge.Lexemes.{atom_of}
use Rattle.front_reader.specs.bridge.Machine.{LexemeState, LexemeStep, over, stopped, put, full_dot, unless_full, content_step, atom_step, act}
use Rattle.front_reader.specs.bridge.Turns.{Turns, open_state, IsContent}

-- a lexeme that is no parenthesis, dot or opening spells an atom
pub atom-some : (x : Lexeme) (w : Seq ℕ) → (x ≡ Close → ⊥) → (x ≡ Dot → ⊥) → ((o : Opening) → x ≡ Open o → ⊥)
    → IsSome (atom_of x w)
atom-some Close w a b c = absurd (a refl)
atom-some Dot w a b c = absurd (b refl)
atom-some (Open o) w a b c = absurd (c o refl)
atom-some (Integer n) w a b c = refl
atom-some (Character n) w a b c = refl
atom-some Token w a b c = refl
atom-some Bar w a b c = refl
atom-some Text w a b c = refl

pub act-is-atom : (number : Seq ℕ → Option ℕ) (s : LexemeState) (p : Place) (r w : Seq ℕ) (x : Lexeme) → IsSome (atom_of x w)
    → act number s p r w x ≡ atom_step number s p r (atom_of x w)
act-is-atom number s p r w Close h = absurd (let no : false ≡ true = h in cc)
act-is-atom number s p r w Dot h = absurd (let no : false ≡ true = h in cc)
act-is-atom number s p r w (Open o) h = absurd (let no : false ≡ true = h in cc)
act-is-atom number s p r w (Integer n) h = refl
act-is-atom number s p r w (Character n) h = refl
act-is-atom number s p r w Token h = refl
act-is-atom number s p r w Bar h = refl
act-is-atom number s p r w Text h = refl

-- steps that are the same turn the same
pub turns-as : (f g : LexemeState → Seq ℕ → LexemeStep) (result : Result (Option Item) Stop) (os : Seq Pending)
    → ((s : LexemeState) (r : Seq ℕ) → f s r ≡ g s r) → Turns g result os → Turns f result os
turns-as f g (Ok o) os e t = λ s r. e s r ∙ t s r
turns-as f g (Err (Refused x)) os e t = λ s r. e s r ∙ t s r
turns-as f g (Err NoMemory) os e t = tt

-- a call that refuses
pub refused-turns : (f : LexemeState → Seq ℕ → LexemeStep) (stop : Stop) (x : Refusal) (os : Seq Pending) → stop ≡ Refused x
    → ((s : LexemeState) (r : Seq ℕ) → f s r ≡ over (stopped x.place x.reason r)) → Turns f (Err stop) os
refused-turns f stop x os e t = subst (λ y. Turns f (Err y) os) (sym e) t

-- an atom behind the one datum of a dot
pub atom-full : (number : Seq ℕ → Option ℕ) (s : LexemeState) (old : Seq Pending) (p dot : Place) (r : Seq ℕ) (a : Option Atom)
    → IsSome a → full_dot (reverse old) ≡ Some dot → atom_step number (open_state s old) p r a ≡ over (stopped dot BadDot r)
atom-full number s old p dot r None h e = absurd (let no : false ≡ true = h in cc)
atom-full number s old p dot r (Some a) h e =
    ap (λ o. unless_full o r (content_step (open_state s old) p (atom_content number a))) e

-- an atom elsewhere
pub atom-put : (number : Seq ℕ → Option ℕ) (s : LexemeState) (old : Seq Pending) (p : Place) (r : Seq ℕ) (a : Option Atom) (k : Kind)
    → full_dot (reverse old) ≡ None → IsContent number a (Some k)
    → atom_step number (open_state s old) p r a ≡ put (open_state s old) (reverse old) (item p (view_content k))
atom-put number s old p r None k e c = absurd c
atom-put number s old p r (Some a) k e c =
    ap (λ o. unless_full o r (content_step (open_state s old) p (atom_content number a))) e
    ∙ ap (content_step (open_state s old) p) c
