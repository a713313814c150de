-- How the bytes of whole frames are read.
use Rattle.std.proofs.Common.{suc, ◌≡◌, ◌≢◌, ℕ, ◌+◌, ◌-◌, ◌<◌, ◌^◌, min, true, false, eqb, ltb, ◌||◌, Option, Some, None, List, [], ◌∷◌, ◌++◌, refl, sym, ap, ◌∙◌, append_assoc, arith, length, take, get_or, w32}
use Rattle.std.specs.Prelude.{option_to_list}
use Rattle.std.specs.Int.{w16, to_le_bytes, from_le_bytes, byte_at}
use Rattle.std.specs.List.{fold, flat_map, All}
use Rattle.std.proofs.lemmas.List.{append-nil, length_push}
use Rattle.std.proofs.lemmas.List.Sums.{fold_more, fold-append}
use Rattle.std.proofs.lemmas.List.Elements.{All-head, All-tail}
use Rattle.std.proofs.lemmas.Bool.{eq-eqb, ne_eqb}
use Rattle.std.proofs.lemmas.Nat.{from_le_bytes-to_le_bytes_2, from_le_bytes-to_le_bytes_4}
use Rattle.smux_frames.specs.declared.frame.Frame.{Frame}
use Rattle.smux_frames.specs.declared.frame.Cmd.{Cmd}
use Rattle.smux_frames.specs.declared.frame.Cmd.TheVariants.{Syn, Fin, Psh, Nop}
use Rattle.smux_frames.specs.declared.fault.FrameFault.{FrameFault}
use Rattle.smux_frames.specs.Spelling.{spelling, code_of, IsFrame}
use Rattle.smux_frames.specs.Reading.{Pending, Reading, read_byte, read_on, read, beginning, frame_now, pending_now, read_frame, cmd_of}
use Rattle.smux_frames.specs.Laws.{FirstBytesGiveFirstFrames, PiecesAreJoined, WrittenFramesAreRead}
use Rattle.smux_frames.proofs.Readings.{read_on_append, read_on_none}

-- nothing is pending
abbrev pub at : ℕ → Pending
at start = record { rest = []; start = start; fault = None }

-- a header that data follows
header_read : (start c a b i j k m : ℕ)
    → ltb c 4 ≡ true
    → (eqb c 2 || eqb (from_le_bytes w16 (a ∷ b ∷ [])) 0) ≡ true
    → eqb 0 (from_le_bytes w16 (a ∷ b ∷ [])) ≡ false
    → fold read_byte (record { frames = []; pending = at start })
    (1 ∷ c ∷ a ∷ b ∷ i ∷ j ∷ k ∷ m ∷ [])
    ≡ record {
      frames = [];
      pending =
          record { rest = 1 ∷ c ∷ a ∷ b ∷ i ∷ j ∷ k ∷ m ∷ []; start = start; fault = None };
    }
header_read start c a b i j k m x y z = rw (x, y, z) refl

header_whole : (start c a b i j k m : ℕ)
    → ltb c 4 ≡ true
    → (eqb c 2 || eqb (from_le_bytes w16 (a ∷ b ∷ [])) 0) ≡ true
    → eqb 0 (from_le_bytes w16 (a ∷ b ∷ [])) ≡ true
    → fold read_byte (record { frames = []; pending = at start })
    (1 ∷ c ∷ a ∷ b ∷ i ∷ j ∷ k ∷ m ∷ [])
    ≡ record {
      frames =
          record {
            cmd = cmd_of c;
            sid = from_le_bytes w32 (i ∷ j ∷ k ∷ m ∷ []);
            payload =
                [];
          } ∷ [];
      pending = at (min (start + 8) (2 ^ 64 - 1));
    }
header_whole start c a b i j k m x y z = rw (x, y, z) refl

-- the data of a frame
data_read : (start c a b i j k m : ℕ) (before : List ℕ) (x : ℕ) (after : List ℕ)
    → from_le_bytes w16 (a ∷ b ∷ []) ≡ length before + suc (length after)
    → (end : ℕ) ×
    (fold read_byte
    (record {
      frames = [];
      pending =
          record { rest = 1 ∷ c ∷ a ∷ b ∷ i ∷ j ∷ k ∷ m ∷ before; start = start; fault = None };
    })
    (x ∷ after)
    ≡ record {
      frames =
          record {
            cmd = cmd_of c;
            sid = from_le_bytes w32 (i ∷ j ∷ k ∷ m ∷ []);
            payload =
                before ++ x ∷ after;
          } ∷ [];
      pending = at end;
    })
data_read start c a b i j k m before x [] h =
    let e : eqb (length (before ++ x ∷ [])) (from_le_bytes w16 (a ∷ b ∷ [])) ≡ true =
    eq-eqb _ _ (length_push before x ∙ omega (arith, h)) in
    (min (start + (length (1 ∷ c ∷ a ∷ b ∷ i ∷ j ∷ k ∷ m ∷ before) + 1)) (2 ^ 64 - 1), rw e refl)
data_read start c a b i j k m before x (y ∷ after) h =
    let e : eqb (length (before ++ x ∷ [])) (from_le_bytes w16 (a ∷ b ∷ [])) ≡ false =
    ne_eqb _ _ (λ q. let l = length_push before x in omega arith) in
    let r = data_read start c a b i j k m (before ++ x ∷ []) y after (let l =
    length_push before x in omega arith) in
    (r.0, rw e (r.1 ∙ rw append_assoc refl))

-- a whole frame
frame_read : (start c a b i j k m : ℕ) (bytes : List ℕ)
    → ltb c 4 ≡ true
    → (eqb c 2 || eqb (from_le_bytes w16 (a ∷ b ∷ [])) 0) ≡ true
    → from_le_bytes w16 (a ∷ b ∷ []) ≡ length bytes
    → (end : ℕ) ×
    (read_on (at start) (1 ∷ c ∷ a ∷ b ∷ i ∷ j ∷ k ∷ m ∷ bytes)
    ≡ record {
      frames =
          record {
            cmd = cmd_of c;
            sid = from_le_bytes w32 (i ∷ j ∷ k ∷ m ∷ []);
            payload =
                bytes;
          } ∷ [];
      pending = at end;
    })
unfolding read_on
frame_read start c a b i j k m [] x y h =
    (min (start + 8) (2 ^ 64 - 1), header_whole start c a b i j k m x y (eq-eqb _ _ (sym h)))
frame_read start c a b i j k m (z ∷ bytes) x y h =
    let e : eqb 0 (from_le_bytes w16 (a ∷ b ∷ [])) ≡ false = ne_eqb _ _ (λ q. omega arith) in
    let r = data_read start c a b i j k m [] z bytes (omega arith) in (
      r.0,
      ap (λ (r : Reading). fold read_byte r (z ∷ bytes)) (header_read start c a b i j k m x y e)
          ∙ r.1,
    )

command_known : (cmd : Cmd) → (ltb (code_of cmd) 4 ≡ true) × (cmd_of (code_of cmd) ≡ cmd)
command_known Syn = (refl, refl)
command_known Fin = (refl, refl)
command_known Psh = (refl, refl)
command_known Nop = (refl, refl)

control_empty : (f : Frame)
    → IsFrame f
    → (eqb (code_of f.cmd) 2 || eqb (from_le_bytes w16 (to_le_bytes w16 (length f.payload))) 0)
    ≡ true
control_empty f g = go f.cmd f.payload g.control
  where
    go : (cmd : Cmd) (bytes : List ℕ)
        → (cmd ≢ Psh → bytes ≡ [])
        → (eqb (code_of cmd) 2 || eqb (from_le_bytes w16 (to_le_bytes w16 (length bytes))) 0) ≡ true
    go Psh bytes h = refl
    go Syn bytes h = let e : bytes ≡ [] = h (λ q. cc) in rw e refl
    go Fin bytes h = let e : bytes ≡ [] = h (λ q. cc) in rw e refl
    go Nop bytes h = let e : bytes ≡ [] = h (λ q. cc) in rw e refl

spelled_read : (start : ℕ) (f : Frame)
    → IsFrame f
    → (end : ℕ) × (read_on (at start) (spelling f) ≡ record { frames = f ∷ []; pending = at end })
spelled_read start f g =
    let n = length f.payload in
    let r = frame_read start (code_of f.cmd) (byte_at 0 n) (byte_at 1 n) (byte_at 0 f.sid)
    (byte_at 1 f.sid) (byte_at 2 f.sid) (byte_at 3 f.sid) f.payload
    (command_known f.cmd).0 (control_empty f g) (from_le_bytes-to_le_bytes_2 n g.small) in
    let sid : from_le_bytes w32 (to_le_bytes w32 f.sid) ≡ f.sid =
    from_le_bytes-to_le_bytes_4 f.sid g.stream in
    let cmd : cmd_of (code_of f.cmd) ≡ f.cmd = (command_known f.cmd).1 in (
      r.0,
      r.1 ∙ (let e : record {
        cmd = cmd_of (code_of f.cmd);
        sid =
            from_le_bytes w32 (to_le_bytes w32 f.sid);
        payload =
            f.payload;
      } ≡ f = rw (cmd, sid) refl in cc),
    )

spelled_all : (start : ℕ) (frames : List Frame)
    → All IsFrame frames
    → (end : ℕ) ×
    (read_on (at start) (flat_map spelling frames) ≡ record { frames = frames; pending = at end })
spelled_all start [] h = (start, read_on_none (at start))
spelled_all start (f ∷ frames) h =
    let one = spelled_read start f (All-head IsFrame f frames h) in
    let more = spelled_all one.0 frames (All-tail IsFrame f frames h) in (
      more.0,
      read_on_append (at start) (spelling f) (flat_map spelling frames)
          ∙ rw (one.1, more.1) refl,
    )

pub spelled_law : WrittenFramesAreRead
spelled_law frames h =
    let r = spelled_all 0 frames h in rw r.1 (record { whole = refl; rest = refl; sound = refl })

pub front_law : FirstBytesGiveFirstFrames
front_law frames bytes more h e =
    let r = spelled_all 0 frames h in
    let a = read_on_append beginning bytes more in (
      (read_on (read bytes).pending more).frames,
      ap (λ (r : Reading). r.frames) (sym a
          ∙ ap (read_on beginning) e ∙ r.1),
    )

-- a fault is kept
fault_byte : (p : Pending) (b : ℕ) → (pending_now p b).fault ≡ None → p.fault ≡ None
fault_byte p b h = go p.fault refl
  where
    go : (o : Option FrameFault) → p.fault ≡ o → p.fault ≡ None
    go None e = e
    go (Some f) e = absurd (let q : Some f ≡ None = rw e at h in cc)

pub fault_front : (p : Pending) (bytes : List ℕ)
    → (read_on p bytes).pending.fault ≡ None
    → p.fault ≡ None
unfolding read_on
fault_front p bytes h = go [] p bytes h
  where
    go : (frames : List Frame) (p : Pending) (bytes : List ℕ)
        → (fold read_byte (record { frames = frames; pending = p }) bytes).pending.fault ≡ None
        → p.fault ≡ None
    go frames p [] h = h
    go frames p (b ∷ bytes) h =
        fault_byte p b (go (frames ++ option_to_list (frame_now p b)) (pending_now p b) bytes h)

-- the first bytes of frames show no fault
pub no_fault : (frames : List Frame) (bytes more : List ℕ)
    → All IsFrame frames
    → bytes ++ more ≡ flat_map spelling frames
    → (read bytes).pending.fault ≡ None
no_fault frames bytes more h e =
    let r = spelled_all 0 frames h in
    let a = read_on_append beginning bytes more in
    fault_front (read bytes).pending more
    (ap (λ (r : Reading). r.pending.fault) (sym a ∙ ap (read_on beginning) e ∙ r.1))
