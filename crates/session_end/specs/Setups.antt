-- The openings of a run.
use Rattle.std.specs.Prelude.{ℕ, List}
use Rattle.uuid.specs.Text.{hyphenated_text, lower}
use Rattle.session_register.specs.Tokens.{token_digits}
use Rattle.session_workers.specs.declared.link_setting.LinkSetting.{LinkSetting}
use Rattle.session_end.specs.declared.setup.Setup.{Setup}

-- what stays the same in all openings of a run: the base names who opens
abbrev pub setting_of : Setup → List ℕ → LinkSetting
setting_of setup base = record {
  side = setup.side;
  window = setup.window;
  address = setup.address;
  client = hyphenated_text lower base;
  session = setup.token.session;
  role = setup.token.role;
}

-- the digits of the token of its first opening
abbrev pub first_token : Setup → List ℕ
first_token setup = token_digits setup.token.token
