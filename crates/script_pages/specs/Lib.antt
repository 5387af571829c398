pub mod PagesOfScripts
