-- Six bodies on a box of two links, and what each link has of them, worked out from 01's text.
use Rattle.std.specs.Prelude.{ℕ, List, [], ◌∷◌}
use Rattle.device.specs.Setup.{Setup}

-- vendor 300, version text AB, hardware address 01 to 08
abbrev pub worked_setup : Setup
worked_setup =
    record {
      links = 2;
      vendor = 300;
      text = 0x41 ∷ 0x42 ∷ [];
      address = 0x01 ∷ 0x02 ∷ 0x03 ∷ 0x04 ∷ 0x05 ∷ 0x06 ∷ 0x07 ∷ 0x08 ∷ [];
    }

abbrev pub worked_bodies : List (List ℕ)
worked_bodies =
    (0x84 ∷ 0x01 ∷ []) ∷  -- a reset by link 0
    (0x93 ∷ 0x03 ∷ 0x21 ∷ 0x0c ∷ []) ∷  -- the channel of link 1
    (0x89 ∷ 0x03 ∷ 0x07 ∷ 0x02 ∷ []) ∷  -- the power state, set by link 0
    (0x92 ∷ 0x02 ∷ 0x07 ∷ []) ∷  -- GET of the power state on link 1
    (0x93 ∷ 0x03 ∷ 0x21 ∷ 0xff ∷ []) ∷  -- a channel out of range
    (0x9d ∷ 0x04 ∷ 0x5c ∷ 0x13 ∷ 0x00 ∷ []) ∷  -- a port inserted
    []

-- link 0's replies: its reset's is none of them
abbrev pub replies_on0 : List (List ℕ)
replies_on0 = (0x89 ∷ 0x06 ∷ 0x07 ∷ 0x02 ∷ []) ∷ []

abbrev pub replies_on1 : List (List ℕ)
replies_on1 =
    (0x93 ∷ 0x06 ∷ 0x21 ∷ 0x0c ∷ []) ∷
    (0x92 ∷ 0x06 ∷ 0x07 ∷ 0x02 ∷ []) ∷
    (0x93 ∷ 0x06 ∷ 0x00 ∷ 0x03 ∷ []) ∷
    (0x9d ∷ 0x07 ∷ 0x5c ∷ 0x13 ∷ 0x00 ∷ []) ∷
    []

-- link 1's values at the end, one for each row of the table, in its order
abbrev pub values_on1 : List (List ℕ)
values_on1 =
    (0x03 ∷ []) ∷  -- last status: the refusal's
    (0x04 ∷ 0x03 ∷ []) ∷
    (0x41 ∷ 0x42 ∷ 0x00 ∷ []) ∷  -- version text
    (0x03 ∷ []) ∷
    (0xac ∷ 0x02 ∷ []) ∷  -- vendor: 300 is 2 x 128 + 44
    (0x18 ∷ 0x34 ∷ []) ∷
    (0x02 ∷ []) ∷  -- interface count
    (0x02 ∷ []) ∷  -- power state: as link 0 set it
    (0x01 ∷ 0x02 ∷ 0x03 ∷ 0x04 ∷ 0x05 ∷ 0x06 ∷ 0x07 ∷ 0x08 ∷ []) ∷  -- hardware address
    (0x00 ∷ []) ∷
    (0x0c ∷ []) ∷  -- channel
    (0x00 ∷ []) ∷
    (0xff ∷ 0xff ∷ []) ∷
    (0x00 ∷ []) ∷
    (0x00 ∷ []) ∷
    (0x00 ∷ []) ∷
    (0x13 ∷ 0x00 ∷ []) ∷  -- ports
    (0x00 ∷ []) ∷
    (0xf0 ∷ 0x00 ∷ 0x00 ∷ 0x00 ∷ []) ∷
    (0xfe ∷ 0xff ∷ []) ∷
    []

-- link 2 is not set up: a body with a reset's second octet is none there, and is answered with 6
abbrev pub unset_body : List ℕ
unset_body = 0xa1 ∷ 0x01 ∷ []

abbrev pub unset_reply : List ℕ
unset_reply = 0xa1 ∷ 0x06 ∷ 0x00 ∷ 0x06 ∷ []
