-- A list cut at the offsets of the layout.
use Rattle.std.proofs.Common.{◌≡◌, ℕ, ◌+◌, ◌-◌, ◌≤◌, List, ◌++◌, length, take, drop, slice_range, sym, ap, ◌∙◌, arith, length-append, append_assoc, length-take, length-drop}
use Rattle.std.proofs.lemmas.List.{take_at, drop_at, drop-drop, take-append-drop}

-- the twelve parts side by side
abbrev pub joined : List ℕ → List ℕ → List ℕ → List ℕ → List ℕ → List ℕ → List ℕ → List ℕ → List ℕ
    → List ℕ → List ℕ → List ℕ → List ℕ
joined a b c d e f g h i j k l = a ++ b ++ c ++ d ++ e ++ f ++ g ++ h ++ i ++ j ++ k ++ l

-- each part but the last is as long as its field
pub record AreFields (a b c d e f g h i j k : List ℕ) : Type 0 where
  pub header : length a ≡ 4
  pub name : length b ≡ 32
  pub schema : length c ≡ 4
  pub date : length d ≡ 8
  pub seq : length e ≡ 8
  pub flags : length f ≡ 8
  pub id_end : length g ≡ 8
  pub id_start : length h ≡ 8
  pub digest : length i ≡ 32
  pub ptype : length j ≡ 4
  pub size : length k ≡ 4

-- the parts stand at the offsets of the fields
pub record StandIn (bytes a b c d e f g h i j k l : List ℕ) : Type 0 where
  pub header : slice_range bytes 0 4 ≡ a
  pub name : slice_range bytes 4 36 ≡ b
  pub schema : slice_range bytes 36 40 ≡ c
  pub date : slice_range bytes 40 48 ≡ d
  pub seq : slice_range bytes 48 56 ≡ e
  pub flags : slice_range bytes 56 64 ≡ f
  pub id_end : slice_range bytes 64 72 ≡ g
  pub id_start : slice_range bytes 72 80 ≡ h
  pub digest : slice_range bytes 80 112 ≡ i
  pub ptype : slice_range bytes 112 116 ≡ j
  pub size : slice_range bytes 116 120 ≡ k
  pub payload : drop 120 bytes ≡ l
  pub long : length bytes ≡ 120 + length l

-- the part at the front of what is left, and what is left behind it
next : (bytes part rest : List ℕ) (at n : ℕ) → drop at bytes ≡ part ++ rest → length part ≡ n
    → (slice_range bytes at (at + n) ≡ part) × (drop (at + n) bytes ≡ rest)
next bytes part rest at n left len =
    let size : at + n - at ≡ n = omega arith in (
      rw (size, left) (take_at part rest n len),
      sym (drop-drop n at bytes)
          ∙ rw left (drop_at part rest n len),
    )

-- parts side by side stand at their offsets
pub stand : (bytes a b c d e f g h i j k l : List ℕ) → AreFields a b c d e f g h i j k
    → bytes ≡ joined a b c d e f g h i j k l → StandIn bytes a b c d e f g h i j k l
stand bytes a b c d e f g h i j k l are is =
    let r : bytes ≡ a ++ (b ++ (c ++ (d ++ (e ++ (f ++ (g ++ (h ++ (i ++ (j ++ (k ++ l)))))))))) =
    is ∙ simp append_assoc in
    let pa = next bytes a _ 0 4 r are.header in
    let pb = next bytes b _ 4 32 pa.1 are.name in
    let pc = next bytes c _ 36 4 pb.1 are.schema in
    let pd = next bytes d _ 40 8 pc.1 are.date in
    let pe = next bytes e _ 48 8 pd.1 are.seq in
    let pf = next bytes f _ 56 8 pe.1 are.flags in
    let pg = next bytes g _ 64 8 pf.1 are.id_end in
    let ph = next bytes h _ 72 8 pg.1 are.id_start in
    let pi = next bytes i _ 80 32 ph.1 are.digest in
    let pj = next bytes j _ 112 4 pi.1 are.ptype in
    let pk = next bytes k _ 116 4 pj.1 are.size in
    record {
      header = pa.0;
      name = pb.0;
      schema = pc.0;
      date = pd.0;
      seq = pe.0;
      flags = pf.0;
      id_end = pg.0;
      id_start = ph.0;
      digest = pi.0;
      ptype = pj.0;
      size = pk.0;
      payload = pk.1;
      long = ap length is ∙ simp length-append (omega arith);
    }

-- a list is a part and what is left behind it
pub part : (bytes : List ℕ) (at n : ℕ)
    → drop at bytes ≡ slice_range bytes at (at + n) ++ drop (at + n) bytes
part bytes at n =
    let size : at + n - at ≡ n = omega arith in
    rw size (sym (take-append-drop n (drop at bytes))
    ∙ ap (λ r. take n (drop at bytes) ++ r) (drop-drop n at bytes))

-- a list is its parts side by side
pub parts : (bytes : List ℕ)
    → bytes ≡ joined (slice_range bytes 0 4) (slice_range bytes 4 36) (slice_range bytes 36 40)
    (slice_range bytes 40 48) (slice_range bytes 48 56) (slice_range bytes 56 64)
    (slice_range bytes 64 72) (slice_range bytes 72 80) (slice_range bytes 80 112)
    (slice_range bytes 112 116) (slice_range bytes 116 120) (drop 120 bytes)
parts bytes =
    let step = λ (at n : ℕ) (rest : List ℕ) (e : drop (at + n) bytes ≡ rest).
    part bytes at n ∙ ap (λ r. slice_range bytes at (at + n) ++ r) e in
    let right = step 0 4 _
    (step 4 32 _ (step 36 4 _
    (step 40 8 _ (step 48 8 _
    (step 56 8 _ (step 64 8 _
    (step 72 8 _ (step 80 32 _ (step 112 4 _ (part bytes 116 4)))))))))) in
    right ∙ sym (simp append_assoc)

-- equal parts make equal lists
pub same_parts : {a b c d e f g h i j k l a' b' c' d' e' f' g' h' i' j' k' l' : List ℕ}
    → a ≡ a' → b ≡ b' → c ≡ c' → d ≡ d' → e ≡ e' → f ≡ f' → g ≡ g' → h ≡ h' → i ≡ i' → j ≡ j'
    → k ≡ k' → l ≡ l'
    → joined a b c d e f g h i j k l ≡ joined a' b' c' d' e' f' g' h' i' j' k' l'
same_parts pa pb pc pd pe pf pg ph pi pj pk pl = cc

-- a part is as long as its field, where the list goes so far
pub length-part : (bytes : List ℕ) (at n : ℕ) → at + n ≤ length bytes
    → length (slice_range bytes at (at + n)) ≡ n
length-part bytes at n within =
    omega (arith, length-take (at + n - at) (drop at bytes), length-drop at bytes)

-- a part that is put behind others which stand behind a list
pub put_behind : (before parts part : List ℕ) {old new : List ℕ}
    → old ≡ before ++ parts → new ≡ old ++ part → new ≡ before ++ (parts ++ part)
put_behind before parts part are put =
    put ∙ ap (λ bytes. bytes ++ part) are ∙ append_assoc before parts part
