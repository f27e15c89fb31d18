-- What reading the head of a frame gives, as a function of the bytes.
use Rattle.std.specs.Prelude.{ℕ, zero, suc, Bool, true, false, List, [], ◌∷◌, length, take, Option, Some, None, if◌then◌else◌, nat_lt}
use Rattle.std.specs.Int.{from_be_bytes, w64}
use Rattle.mj_frame.specs.declared.head.Head.{Head}
use Rattle.mj_frame.specs.declared.head.Kind.{Kind}
use Rattle.mj_frame.specs.declared.head.HeadAnswer.{HeadAnswer}
use Rattle.mj_frame.specs.declared.head.HeadAnswer.TheVariants as answers

-- what the answer says of the head, where it has one, and of its length
abbrev pub IfHead : HeadAnswer → (Head → ℕ → Type 0) → Type 0
IfHead answers.Short P = Unit {0}
IfHead answers.BadFlags P = Unit {0}
IfHead (answers.Head h n) P = P h n

-- the kind that a flags byte says
abbrev pub kind_of : ℕ → Option Kind
kind_of zero = Some (record { more = false; long = false; command = false })
kind_of (suc zero) = Some (record { more = true; long = false; command = false })
kind_of (suc (suc zero)) = Some (record { more = false; long = true; command = false })
kind_of (suc (suc (suc zero))) = Some (record { more = true; long = true; command = false })
kind_of (suc (suc (suc (suc zero)))) = Some (record { more = false; long = false; command = true })
kind_of (suc (suc (suc (suc (suc zero))))) = None
kind_of (suc (suc (suc (suc (suc (suc zero)))))) = Some (record { more = false; long = true; command = true })
kind_of (suc (suc (suc (suc (suc (suc (suc more))))))) = None

-- the size behind the flags byte, where it is whole
abbrev pub short_size : List ℕ → Option ℕ
short_size [] = None
short_size (size ∷ rest) = Some size

abbrev pub long_size : List ℕ → Option ℕ
long_size rest = if nat_lt (length rest) 8 then None else Some (from_be_bytes w64 (take 8 rest))

abbrev pub size_of : Bool → List ℕ → Option ℕ
size_of true rest = long_size rest
size_of false rest = short_size rest

abbrev pub head_from : Kind → Option ℕ → HeadAnswer
head_from kind None = answers.Short
head_from kind (Some size) = answers.Head (record { more = kind.more; command = kind.command; size = size }) (if kind.long then 9 else 2)

abbrev pub head_behind : Option Kind → List ℕ → HeadAnswer
head_behind None rest = answers.BadFlags
head_behind (Some kind) rest = head_from kind (size_of kind.long rest)

-- the head that the bytes begin with
unfoldable pub head_at : List ℕ → HeadAnswer
head_at [] = answers.Short
head_at (octet ∷ rest) = head_behind (kind_of octet) rest
