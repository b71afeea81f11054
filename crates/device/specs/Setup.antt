-- Setup (01, Setup).
use Rattle.std.specs.Prelude.{ℕ, Bool, Result, Ok, Err, cond, ◌&&◌, List, [], eqb, leb, length, replicate}
use Rattle.device.specs.declared.state.Settings.{Settings}
use Rattle.device.specs.declared.state.Device.{Device}
use Rattle.device.specs.declared.set_up.BadSetup.{BadSetup}
use Rattle.device.specs.declared.set_up.Configured.{Configured}
use Rattle.device.specs.State.{text_from, fresh, address_size, max_links, max_text, max_vendor}
use Rattle.device.specs.Text.{is_text}

-- 01's number of an answer, and the box
pub record Report : Type 0 where
  pub number : ℕ
  pub device : Device

abbrev pub number_of : Result Unit BadSetup → ℕ
number_of (Ok x) = 0
number_of (Err e) = 14

abbrev pub reported : Configured → Report
reported c = record { number = number_of c.answer; device = c.device }

-- "Links 1 to 4 .., vendor 0 to 2,097,151, version text 0 to 32 octets without a zero, hardware address of 8 octets"; the text is UTF-8
-- (02, T-01)
unfoldable pub is_good_setup : ℕ → ℕ → List ℕ → List ℕ → Bool
is_good_setup links vendor text address =
    leb 1 links && (leb links max_links && (leb vendor max_vendor && (is_text max_text text && eqb (length address) address_size)))

abbrev pub settings_from : ℕ → ℕ → List ℕ → List ℕ → Settings
settings_from links vendor text address = record { links = links; vendor = vendor; text = text_from text; address = address }

-- "14 returns a fresh box of one link, vendor 0, empty text, zero address"
unfoldable pub refusal : Report
refusal = record { number = 14; device = fresh (settings_from 1 0 [] (replicate address_size 0)) }

-- "anything else is 14"
unfoldable pub setup_for : ℕ → ℕ → List ℕ → List ℕ → Report
setup_for links vendor text address =
    cond (is_good_setup links vendor text address) (record { number = 0; device = fresh (settings_from links vendor text address) }) refusal

-- what setup is given, good or bad
pub record Setup : Type 0 where
  pub links : ℕ
  pub vendor : ℕ
  pub text : List ℕ
  pub address : List ℕ

-- "what setup returns for the same settings, 14 included"
abbrev pub device_from : Setup → Device
device_from s = (setup_for s.links s.vendor s.text s.address).device
