-- The reader, octet by octet (01, Octets on the wire).
use Rattle.std.specs.Prelude.{Bool, true, false, cond, List, [], ◌∷◌, ℕ, ◌+◌, ◌-◌, ◌/◌, ltb, eqb, length, take, set}
use Rattle.std.specs.Int.Bits.{bit_xor}
use Rattle.octets.specs.Body.{max_body, header_of}
use Rattle.octets.specs.LittleEndian.{le_at}
use Rattle.frame.specs.Kind.{is_flag, is_escape, is_skipped}
use Rattle.frame.specs.Fcs.{fcs}
use Rattle.hdlc.specs.declared.reader.Fate.{Fate}
use Rattle.hdlc.specs.declared.reader.Reader.{Reader}
use Rattle.hdlc.specs.Fate.{Fated, checked, unchecked, decided, fated, Read, later}

-- ---- the fate of gathered octets

-- of gathered octets, the body and the check that was sent after it
unfoldable pub body_of : List ℕ → List ℕ
body_of g = take (length g - 2) g

unfoldable pub check_of : List ℕ → ℕ
check_of g = le_at g (length g - 2) 2

-- the fate of a body whose check is right: 6, else 1
unfoldable pub headed : List ℕ → Fated
headed body = cond (eqb (header_of body / 64) 2) (checked body) (unchecked 6)

-- the fate of gathered octets: 2, 3 and 6 in this order, else 1
unfoldable pub frame_fate : List ℕ → Fated
frame_fate g = cond (ltb (length g) 4) (unchecked 2) (cond (eqb (check_of g) (fcs (body_of g))) (headed (body_of g)) (unchecked 3))

-- ---- states

-- "at most 1,302 are gathered with the check"
abbrev pub max_gathered : ℕ
max_gathered = max_body + 2

-- a reader that has gathered n octets, with an escape pending or not
abbrev pub gathering : ℕ → Bool → Reader
gathering n e = record { count = n; escaped = e; discarding = false }

-- a reader that throws away "all until the next flag"
abbrev pub overlong : Reader
overlong = record { count = max_gathered; escaped = false; discarding = true }

-- "A fresh reader stands as if a flag had just passed"
abbrev pub fresh : Reader
fresh = gathering 0 false

-- a reader with the assembly buffer that it is lent
pub record Assembling : Type 0 where
  pub reader : Reader
  pub assembly : List ℕ

abbrev pub assembling : Reader → List ℕ → Assembling
assembling r a = record { reader = r; assembly = a }

-- ---- one octet

-- an octet is gathered; "The 1,303rd makes the frame too long, and all until the next flag is thrown away"
unfoldable pub gather : Assembling → ℕ → Assembling
gather h b =
    cond (ltb h.reader.count max_gathered)
    (assembling (gathering (h.reader.count + 1) false) (set h.assembly h.reader.count b)) (assembling overlong h.assembly)

-- an octet that is neither a flag nor skipped, and whether it is the escape;
-- "After an escape any other octet except a flag is taken xor 0x20"
unfoldable pub after_content : Assembling → Bool → ℕ → Assembling
after_content h escape b =
    cond h.reader.discarding h
    (cond h.reader.escaped (gather h (bit_xor b 0x20))
    (cond escape (assembling (gathering h.reader.count true) h.assembly) (gather h b)))

-- "After any flag the reader is fresh again"; 11, 13 and F8 are skipped "wherever they stand, also after an escape"
unfoldable pub after_octet : Assembling → ℕ → Assembling
after_octet h b = cond (is_flag b) (assembling fresh h.assembly) (cond (is_skipped b) h (after_content h (is_escape b) b))

-- at a flag: fates 4 and 5, then none where nothing is gathered ("is no frame and has no fate"), then 2, 3, 6 and 1
unfoldable pub flag_fate : Assembling → Fated
flag_fate h =
    cond h.reader.discarding (unchecked 4)
    (cond h.reader.escaped (unchecked 5)
    (cond (eqb h.reader.count 0) (unchecked 0) (frame_fate (take h.reader.count h.assembly))))

-- only a flag decides a fate
unfoldable pub fate_at : Assembling → ℕ → Fated
fate_at h b = cond (is_flag b) (flag_fate h) (unchecked 0)

-- ---- a call

-- it ends with a reader and the assembly buffer; the second makes one of what the code returns
abbrev pub Outcome : Type 0
Outcome = Read Assembling

abbrev pub outcome : Fate → ℕ → Reader → List ℕ → Outcome
outcome f n r a = record { fate = fated f a; read = n; state = assembling r a }

-- "One call reads lent input until the first frame has its fate, or the input ends"; the flag is read too
unfoldable pub run : Assembling → List ℕ → Outcome
run h [] = record { fate = unchecked 0; read = 0; state = h }
run h (b ∷ bs) =
    cond (decided (fate_at h b)) (record { fate = fate_at h b; read = 1; state = after_octet h b }) (later 1 (run (after_octet h b) bs))
