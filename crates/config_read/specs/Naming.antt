-- The forms of names, as the code tells them apart.
use Rattle.std.specs.Prelude.{ℕ, Bool, List}
use Rattle.config_read.specs.declared.naming.Form.{Form}
use Rattle.config_read.specs.declared.naming.Form.TheVariants.{Host, Macro, Title}
use Rattle.config_read.specs.Words.{is_host_name, is_macro_name, is_title}

-- what a name of this form is
abbrev pub has_form : Form → List ℕ → Bool
has_form Host = is_host_name
has_form Macro = is_macro_name
has_form Title = is_title
