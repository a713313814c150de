-- What was read of a source, piece after piece.
use Rattle.std.proofs.Common.{◌≡◌, ℕ, ◌<◌, ◌≤◌, Option, Some, None, List, [], length, refl, sym, ap, subst, ◌∙◌, arith, length-append, append-nil}
use Rattle.chan_io.specs.Sources.{Input, Reads}
use Rattle.lab_cmd.specs.Inputs.{ReadSome, GivesAtMost, IsLonger, ReadToEnd}

-- at first nothing was read
pub ReadSome-none : (before : Option Input) → ReadSome [] before before
ReadSome-none None = refl
ReadSome-none (Some before) = (
  before.left,
  refl,
  ap (λ given. Some (record { given = given; left = before.left }))
      (sym (append-nil before.given)),
)

-- a read at the end leaves the source as it was
pub same_at_end : (buffer : List ℕ) (before after : Option Input) → Reads 0 buffer before after
    → after ≡ before
same_at_end buffer None after read = read
same_at_end buffer (Some before) after read =
    read.2 ∙ ap (λ given. Some (record { given = given; left = before.left }))
    (append-nil before.given)

-- what was read bounds what was given
pub GivesAtMost-read : (most : ℕ) (bytes : List ℕ) (before after : Option Input)
    → ReadSome bytes before after
    → length bytes ≤ most → GivesAtMost most before after
GivesAtMost-read most bytes None after read short = read
GivesAtMost-read most bytes (Some before) after read short =
    let Bounded : Option Input → Type 0 = GivesAtMost most (Some before) in
    subst Bounded (sym read.2) (omega (arith, length-append before.given bytes))

-- what was read to the end is what was left
pub left_from_read : (input : List ℕ) (before : Input) (told after : Option Input)
    → told ≡ Some before → ReadToEnd input told after → before.left ≡ input
left_from_read input before told after is read =
    let P : Option Input → Type 0 = λ o. ReadToEnd input o after in
    let at : P (Some before) = subst P is read in at.0

-- more was left than this
pub longer_from_told : (most : ℕ) (told : Option Input) (before : Input)
    → told ≡ Some before → IsLonger most told → most < length before.left
longer_from_told most told before is longer = subst (IsLonger most) is longer
