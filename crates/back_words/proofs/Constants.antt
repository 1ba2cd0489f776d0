-- Words of which each is a constant: those in front and those behind, one at a place, blocks behind one another, and all words that there are.
use Rattle.std.proofs.Common.{◌≡◌, ℕ, zero, suc, ◌+◌, ◌*◌, ◌≤◌, List, [], ◌∷◌, ◌++◌, length, Some, refl, sym, ◌∙◌, ap, subst, append_assoc, arith}
use Rattle.std.specs.Prelude.{slice_get}
use Rattle.base.specs.Names.{slice_get-behind, slice_get-front}
use Rattle.back_relation.specs.Setting.{Setting, ConstantAt, ConstantsAt}
use Rattle.back_words.specs.Blocks.{blocks, block_addresses}

module _ (setting : Setting) where
  moved : (a b : ℕ) (ws : List ℕ) → a ≡ b → ConstantsAt setting a ws → ConstantsAt setting b ws
  moved a b ws e h = subst (λ x. ConstantsAt setting x ws) e h

  -- those in front and those behind
  pub split : (xs ys : List ℕ) (a : ℕ) → ConstantsAt setting a (xs ++ ys) → ConstantsAt setting a xs × ConstantsAt setting (a + 4 * length xs) ys
  split [] ys a h = (tt, moved a (a + 4 * 0) ys (omega arith) h)
  split (x ∷ xs) ys a h =
      let rest = split xs ys (a + 4) h.1 in
      let e : a + 4 + 4 * length xs ≡ a + 4 * suc (length xs) = omega arith in
      ((h.0, rest.0), moved (a + 4 + 4 * length xs) (a + 4 * suc (length xs)) ys e rest.1)

  -- one at a place
  pub one_at : (ws : List ℕ) (a i w : ℕ) → ConstantsAt setting a ws → slice_get ws i ≡ Some w → ConstantAt setting (a + 4 * i) w
  one_at [] a i w h e = absurd (cc e)
  one_at (x ∷ xs) a zero w h e =
      let same : x ≡ w = cc e in
      let here : a ≡ a + 4 * 0 = omega arith in
      subst (λ b. ConstantAt setting b w) here (subst (λ y. ConstantAt setting a y) same h.0)
  one_at (x ∷ xs) a (suc i) w h e =
      let here : a + 4 + 4 * i ≡ a + 4 * suc i = omega arith in
      subst (λ b. ConstantAt setting b w) here (one_at xs (a + 4) i w h.1 e)

  -- all further words
  from : (before ws : List ℕ) → setting.further ≡ before ++ ws → ConstantsAt setting (setting.further_at + 4 * length before) ws
  from before [] e = tt
  from before (w ∷ ws) e =
      let all : setting.further ≡ (before ++ w ∷ []) ++ ws = e ∙ sym (append_assoc before (w ∷ []) ws) in
      let rest = from (before ++ w ∷ []) ws all in
      let next : setting.further_at + 4 * length (before ++ w ∷ []) ≡ setting.further_at + 4 * length before + 4 =
      omega (arith, pushed before w) in (
        record {
          number = length before;
          here = refl;
          found = ap (λ xs. slice_get xs (length before)) all
              ∙ slice_get-front (before ++ w ∷ []) ws (length before) w (slice_get-behind before w);
        },
        moved (setting.further_at + 4 * length (before ++ w ∷ [])) (setting.further_at + 4 * length before + 4) ws next rest,
      )
    where
      pushed : (xs : List ℕ) (x : ℕ) → length (xs ++ x ∷ []) ≡ length xs + 1
      pushed [] x = refl
      pushed (y ∷ ys) x = omega (arith, pushed ys x)

  pub all_constants : ConstantsAt setting setting.further_at setting.further
  all_constants = moved (setting.further_at + 4 * 0) setting.further_at setting.further (omega arith) (from [] setting.further refl)

  -- the block of one among others
  pub record BlockAt (X : Type 0) (words : X → ℕ → List ℕ) (xs : List X) (address i : ℕ) (x : X) : Type 0 where
    pub start : ℕ
    pub found : slice_get (block_addresses words xs address) i ≡ Some start
    pub behind : address ≤ start
    pub constants : ConstantsAt setting start (words x start)

  pub block_at : {X : Type 0} (words : X → ℕ → List ℕ) (xs : List X) (address i : ℕ) (x : X) → ConstantsAt setting address (blocks words xs address)
      → slice_get xs i ≡ Some x → BlockAt X words xs address i x
  block_at words [] address i x h e = absurd (cc e)
  block_at words (y ∷ ys) address zero x h e =
      let same : y ≡ x = cc e in
      record {
        start = address;
        found = refl;
        behind = omega arith;
        constants = subst (λ z. ConstantsAt setting address (words z address)) same (split (words y address) (blocks words ys (address + 4 * length (words y address))) address h).0;
      }
  block_at words (y ∷ ys) address (suc i) x h e =
      let rest = block_at words ys (address + 4 * length (words y address)) i x (split (words y address) (blocks words ys (address + 4 * length (words y address))) address h).1 e in
      record { start = rest.start; found = rest.found; behind = omega (arith, rest.behind); constants = rest.constants }

-- as many addresses as blocks
pub address_count : {X : Type 0} (words : X → ℕ → List ℕ) (xs : List X) (address : ℕ) → length (block_addresses words xs address) ≡ length xs
address_count words [] address = refl
address_count words (x ∷ xs) address = ap suc (address_count words xs (address + 4 * length (words x address)))
