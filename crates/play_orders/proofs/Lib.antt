mod Awake
