-- The way to the frame, and accesses of words, as code has them; and what can be reached so that the offsets are words.
use Rattle.std.specs.Prelude.{ℕ, ◌+◌, ◌^◌, ◌<◌}
use Rattle.rv_encode.specs.declared.instruction.Instr.{Instr}
use Rattle.rv_encode.specs.declared.instruction.Instr.TheVariants.{Lw, Sw}
use Rattle.back_places.specs.declared.place.Place.{Place}
use Rattle.back_places.specs.declared.place.Place.TheVariants.{InRegister, InSlot, AsConstant}
use Rattle.back_places.specs.Places.{Way, from_stack, past_lent, no_way}
use Rattle.back_emit.specs.declared.ways.FrameWay.{FrameWay}
use Rattle.back_emit.specs.declared.ways.FrameWay.TheVariants.{FromStack, PastLent, NoWay}
use Rattle.back_emit.specs.declared.ways.Access.{Access}
use Rattle.back_emit.specs.declared.ways.Access.TheVariants.{LoadInto, StoreFrom}

abbrev pub way_of : FrameWay → Way
way_of (FromStack depth) = from_stack depth
way_of (PastLent depth) = past_lent depth
way_of NoWay = no_way

-- the instruction of an access, with its base register and its offset
abbrev pub instruction_of : Access → (base offset : ℕ) → Instr
instruction_of (LoadInto r) = Lw r
instruction_of (StoreFrom r) = Sw r

abbrev pub register_of : Access → ℕ
register_of (LoadInto r) = r
register_of (StoreFrom r) = r

-- a word of the frame is near enough that its offset is a word, and past a block that was lent, that an instruction holds it
abbrev pub IsReached : FrameWay → (slot : ℕ) → Type 0
IsReached (FromStack depth) slot = depth + slot < 2 ^ 30
IsReached (PastLent depth) slot = depth + slot < 2 ^ 10
IsReached NoWay slot = Unit {0}

-- a place can be read and written: a register of the machine, or a word of the frame that is reached
abbrev pub IsInReach : FrameWay → Place → Type 0
IsInReach way (InRegister r) = r < 32
IsInReach way (InSlot k) = IsReached way k
IsInReach way (AsConstant w) = Unit {0}

-- how many words records take on the way
abbrev pub depth_of : FrameWay → ℕ
depth_of (FromStack depth) = depth
depth_of (PastLent depth) = depth
depth_of NoWay = 0
