-- A place as one number, until the sections' starts are known.
use Rattle.std.specs.Prelude.{ℕ, ◌+◌, ◌*◌, ◌≤◌}
use Rattle.layout.specs.declared.state.Section.{Section}
use Rattle.layout.specs.declared.state.Section.TheVariants as section
use Rattle.layout.specs.declared.state.Place.{Place}
use Rattle.layout.specs.Limits.{word_limit, data_limit, bss_limit}

-- the most bytes that a section holds
abbrev pub section_limit : Section → ℕ
section_limit section.Text = 4 * word_limit
section_limit section.Data = data_limit
section_limit section.Bss = bss_limit

abbrev pub PlaceFits : Place → Type 0
PlaceFits p = p.offset ≤ section_limit p.section

-- 2^24 times the section's number, and the offset
abbrev pub section_code : Section → ℕ
section_code section.Text = 0
section_code section.Data = 0x1000000
section_code section.Bss = 0x2000000

abbrev pub place_code : Place → ℕ
place_code p = section_code p.section + p.offset
