-- At which lines a register is alive along paths that go forwards alone.
use Rattle.std.specs.Prelude.{ℕ, zero, suc, ◌+◌, ◌-◌, ◌==◌, Bool, false, ◌&&◌, ◌||◌, not, nat_lt, nat_le, List, [], ◌∷◌, slice_index, slice_index_or, Option, Some, None}
use Rattle.std.specs.List.{list_any}
use Rattle.back_liveness.specs.declared.step.Step.{Step}
use Rattle.back_liveness.specs.Liveness.{is_read}

-- whether a line writes a register
abbrev pub is_written : Option ℕ → (register : ℕ) → Bool
is_written None v = false
is_written (Some r) v = r == v

-- whether a register is alive at a line, of which it is known where it is alive behind the line, from the next one on
abbrev pub alive_before : (v line : ℕ) → Step → (later : List Bool) → Bool
alive_before v line s later =
    is_read s v
    || ((s.falls && (not (is_written s.written v) && slice_index_or later 0 false))
    || list_any (λ t. nat_lt line t && slice_index_or later (t - (line + 1)) false) s.aside)

-- at each of the last lines, from a line on
abbrev pub alive_from : (v line : ℕ) → List Step → List Bool
alive_from v line [] = []
alive_from v line (s ∷ steps) =
    alive_before v line s (alive_from v (line + 1) steps) ∷ alive_from v (line + 1) steps

unfoldable pub alive_ahead : List Step → (v line : ℕ) → Bool
alive_ahead steps v line = slice_index_or (alive_from v 0 steps) line false

-- whether some number below another one passes a test
abbrev pub any_below : (n : ℕ) → (ℕ → Bool) → Bool
any_below zero p = false
any_below (suc n) p = p n || any_below n p

-- Whether a register is alive at the line along such paths, or at the head of a loop around it, where the last line from which one comes back
-- to each head is given.
unfoldable pub alive_around : List Step → (latest : List ℕ) → (v line : ℕ) → Bool
alive_around steps latest v line = any_below (line + 1) (λ h. nat_le line (slice_index latest h) && alive_ahead steps v h)
