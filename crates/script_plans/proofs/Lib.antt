pub mod SetupsAreScripts
